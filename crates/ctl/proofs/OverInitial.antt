-- The smallest of a row's values at the initial states: which states these are, what a pass over them holds, and what the smallest keeps.
use mathlib.Core.Path.{◌≡◌, refl, sym, ap, ◌∙◌, subst}
use Prim.Native.Nat.{ℕ, zero, suc, min, ◌+◌, ◌<◌, ◌≤◌}
use mathlib.Core.List.Memᴰ
use mathlib.Core.List.{List, [], ◌∷◌, ◌++◌, map, map-append, append-nil, Memᴰ}
use mathlib.Core.Bool.{Bool, true, false, cond}
use mathlib.Core.Logic.{⊎_elim}
use native.Mathlib.Omega.{arith}
use native.Mathlib.Numerals.{add-one}
use lib.Dec.{eqb}
use borrow.Author.Tests.{eq-eqb, eqb-true, ne_eqb}
use Rattle.lists.specs.Choosing.{best}
use Rattle.lists.specs.Entries.{Some, at}
use Rattle.values.specs.Values.{top}
use Rattle.model.specs.Model.{Initial}
use Rattle.ctl.specs.Inside.{InitialRow}
use Rattle.ctl.specs.Rows.{initial_states, over_initial}
use Rattle.kripke.proofs.Related.{Kept, RowRelated, best_rows}
use Rattle.kripke.proofs.Steps.{choose_assoc, choose_picks}
use Rattle.lists.proofs.Choosing.{best_append, best_cons, best_picked, least_bounds}
use Rattle.lists.proofs.Entries.{map_same, some_map, some_member}
use Rattle.lists.proofs.Numbers.{last_or_before}

module _ (initial : List ℕ) where
  -- one state more is listed last if it is initial, and otherwise not
  more : (s : ℕ) (b : Bool) → eqb (at initial s) 1 ≡ b → initial_states (suc s) initial ≡ initial_states s initial ++ cond b (s ∷ []) []
  unfolding initial_states
  more s b e = rw e

  -- each listed one is initial,
  pub listed_initial : (S s : ℕ) → Memᴰ s (initial_states S initial) → Initial S initial s
  unfolding initial_states
  listed_initial zero s m = absurd (Memᴰ.not-nil m)
  listed_initial (suc n) s m = ⊎_elim (λ k. let h = listed_initial n s k in record { state = omega (arith, h.state); entry = h.entry }) (last (eqb (at initial n) 1) refl) (Memᴰ.append_cases (initial_states n initial) m)
    where
      last : (b : Bool) → eqb (at initial n) 1 ≡ b → Memᴰ s (cond b (n ∷ []) []) → Initial (suc n) initial s
      last true e k = let q = Memᴰ.eq_of_singleton k in record { state = omega (arith, q); entry = ap (at initial) q ∙ eqb-true (at initial n) 1 e }
      last false e k = absurd (Memᴰ.not-nil k)

  -- and each initial one is listed
  pub initial_listed : (S s : ℕ) → Initial S initial s → Memᴰ s (initial_states S initial)
  initial_listed zero s h = absurd (omega (arith, h.state))
  initial_listed (suc n) s h =
      ⊎_elim
      (λ (q : s ≡ n). subst (Memᴰ s) (sym (more n true (eq-eqb _ 1 (ap (at initial) (sym q) ∙ h.entry)))) (Memᴰ.append_right (initial_states n initial) (Memᴰ.head q)))
      (λ (l : s < n). subst (Memᴰ s) (sym (more n (eqb (at initial n) 1) refl)) (Memᴰ.append_left _ (initial_listed n s (record { state = l; entry = h.entry }))))
      (last_or_before h.state)

  pub initial_some : (S s : ℕ) → Initial S initial s → Some (initial_states S initial)
  initial_some S s h = some_member (initial_states S initial) (initial_listed S s h)

  module _ (row : List ℕ) where
    -- what a pass that begins with the greatest value holds after s states
    unfoldable pub smallest_so_far : ℕ → ℕ
    smallest_so_far s = best min (top ∷ map (at row) (initial_states s initial))

    pub smallest_none : smallest_so_far 0 ≡ top
    unfolding smallest_so_far initial_states best
    smallest_none = refl

    smallest_next : (s : ℕ) (b : Bool) → eqb (at initial s) 1 ≡ b → best min (top ∷ map (at row) (initial_states s initial ++ cond b (s ∷ []) [])) ≡ smallest_so_far (s + 1)
    unfolding smallest_so_far
    smallest_next s b e = ap (λ (ts : List ℕ). best min (top ∷ map (at row) ts)) (sym (more s b e)) ∙ ap (λ (n : ℕ). best min (top ∷ map (at row) (initial_states n initial))) (sym (add-one s))

    pub smallest_more : (s : ℕ) → at initial s ≡ 1 → min (smallest_so_far s) (at row s) ≡ smallest_so_far (s + 1)
    unfolding smallest_so_far best
    smallest_more s e =
        sym (best_append min (choose_assoc true) (top ∷ map (at row) (initial_states s initial)) (at row s ∷ []) tt tt)
        ∙ ap (λ (vs : List ℕ). best min (top ∷ vs)) (sym (map-append (at row) (initial_states s initial) (s ∷ [])))
        ∙ smallest_next s true (eq-eqb (at initial s) 1 e)

    pub smallest_other : (s : ℕ) → (at initial s ≡ 1 → ⊥) → smallest_so_far s ≡ smallest_so_far (s + 1)
    unfolding smallest_so_far
    smallest_other s e = ap (λ (ts : List ℕ). best min (top ∷ map (at row) ts)) (sym (append-nil (initial_states s initial))) ∙ smallest_next s false (ne_eqb (at initial s) 1 e)

    -- one initial state has the smallest value, and none has less
    pub smallest_picked : (S : ℕ) → Some (initial_states S initial) → (s : ℕ) × Initial S initial s × (at row s ≡ over_initial S initial row)
    unfolding over_initial
    smallest_picked S some = let p = best_picked min (at row) (choose_picks true) (initial_states S initial) some in (p.0, listed_initial S p.0 p.1, sym p.2)

    pub smallest_bounds : (S s : ℕ) → Initial S initial s → over_initial S initial row ≤ at row s
    unfolding over_initial
    smallest_bounds S s h = least_bounds (at row) (initial_states S initial) s (initial_listed S s h)

    -- so a pass over all states holds it, since no value is above the greatest that it began with
    pub smallest_whole : (S : ℕ) → InitialRow S initial row → smallest_so_far S ≡ over_initial S initial row
    unfolding smallest_so_far over_initial
    smallest_whole S r =
        let p = smallest_picked S r.some in
        best_cons min top (map (at row) (initial_states S initial)) (some_map (at row) (initial_states S initial) r.some) ∙ omega (arith, p.2, r.small p.0 p.1.state)

-- rows that agree have the same smallest value
pub initial_same : (S : ℕ) (initial row row' : List ℕ) → ((s : ℕ) → at row s ≡ at row' s) → over_initial S initial row ≡ over_initial S initial row'
unfolding over_initial
initial_same S initial row row' h = ap (best min) (map_same (at row) (at row') h (initial_states S initial))

-- and a relation that min keeps holds of the smallest values of two rows if it holds state by state
pub initial_related : (Rel : ℕ → ℕ → Type 0) (K : Kept Rel) (S : ℕ) (initial row row' : List ℕ) → RowRelated Rel K row row' → Rel (over_initial S initial row) (over_initial S initial row')
unfolding over_initial
initial_related Rel K S initial row row' h = best_rows Rel K true (at row) (at row') h (initial_states S initial)
