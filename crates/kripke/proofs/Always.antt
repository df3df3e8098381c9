-- The equations of the operators: an until with true on the left, "eventually", and the not of that of the not, "always".
use mathlib.Core.Path.{◌≡◌, refl, sym, ap, ◌∙◌}
use Prim.Native.Nat.{ℕ, ◌≤◌, ◌<◌, min, max}
use mathlib.Core.List.{List, map, map-map}
use mathlib.Core.Bool.{Bool, true, false, not}
use mathlib.Core.Logic.{⊎_elim}
use native.Mathlib.Omega.{arith}
use Rattle.kripke.specs.Transitions.{Graph, succs}
use Rattle.kripke.specs.Until.{everywhere, next, opposite, step, until}
use Rattle.values.specs.Values.{choose, neg, top}
use Rattle.lists.specs.Choosing.{best}
use Rattle.lists.specs.Entries.{at}
use Rattle.lists.specs.Rows.{tab}
use Rattle.kripke.proofs.Least.{least, solves}
use Rattle.kripke.proofs.Related.{next_related, small_kept}
use Rattle.kripke.proofs.Successors.{succs_states}
use Rattle.lists.proofs.Choosing.{best_map}
use Rattle.lists.proofs.Entries.{map_all, some_map}
use Rattle.lists.proofs.Numbers.{lt_or_le}
use Rattle.lists.proofs.Rows.{tab_at, tab_past, tab_same}

-- a row of values up to 2
abbrev pub Small : List ℕ → Type 0
Small row = (s : ℕ) → at row s ≤ top

-- not exchanges the least and the greatest
neg_choose : (all : Bool) (a b : ℕ) → neg (choose all a b) ≡ choose (not all) (neg a) (neg b)
neg_choose false a b = omega arith
neg_choose true a b = omega arith

module _ (S : ℕ) (es : List ℕ) (G : Graph S es) where
  pub next_turned : (all : Bool) (row : List ℕ) (s : ℕ) → s < S → next (not all) es (opposite S row) s ≡ neg (next all es row s)
  unfolding next opposite
  next_turned all row s h =
      ap (best (choose (not all))) (map_all (λ (t : ℕ). t < S) (at (opposite S row)) (λ (t : ℕ). neg (at row t)) (tab_at (λ (t : ℕ). neg (at row t)) S) (succs es s) (succs_states S es G s) ∙ sym (map-map neg (at row) (succs es s)))
      ∙ best_map (choose all) (choose (not all)) neg (neg_choose all) (map (at row) (succs es s)) (some_map (at row) (succs es s) (G.out s h))

  -- so a value of AX, which is not EX not, is the least of the successors'
  pub next_small : (all : Bool) (row : List ℕ) → Small row → (s : ℕ) → next all es row s ≤ top
  next_small all row small = next_related (λ (a b : ℕ). a ≤ top) small_kept all es row row small

  pub all_next : (row : List ℕ) → Small row → (s : ℕ) → s < S → neg (next false es (opposite S row) s) ≡ next true es row s
  all_next row small s h = let e : next false es (opposite S row) s ≡ neg (next true es row s) = next_turned true row s h in let l = next_small true row small s in omega arith

  pub everywhere_at : (s : ℕ) → s < S → at (everywhere S) s ≡ top
  unfolding everywhere
  everywhere_at = tab_at (λ (s : ℕ). top) S

  pub opposite_at : (row : List ℕ) (s : ℕ) → s < S → at (opposite S row) s ≡ neg (at row s)
  unfolding opposite
  opposite_at row = tab_at (λ (s : ℕ). neg (at row s)) S

  -- for "all" AF, otherwise EF
  abbrev pub eventually : Bool → List ℕ → ℕ → ℕ
  eventually all f = until all es (everywhere S) f S

  -- for "all" EG, otherwise AG
  abbrev pub always : Bool → List ℕ → ℕ → ℕ
  always all f s = neg (eventually all (opposite S f) s)

  pub small_tab : (f : ℕ → ℕ) → ((s : ℕ) → s < S → f s ≤ top) → Small (tab f S)
  small_tab f h s = ⊎_elim (λ (l : s < S). rw (tab_at f S s l) (h s l)) (λ (l : S ≤ s). rw (tab_past f S s l) (omega arith)) (lt_or_le s S)

  pub small_opposite : (f : List ℕ) → Small (opposite S f)
  unfolding opposite
  small_opposite f = small_tab (λ (s : ℕ). neg (at f s)) (λ s h. omega arith)

  module _ (all : Bool) (f : List ℕ) (small : Small f) where
    -- the equation of an until, its left part true
    solved : (s : ℕ) → s < S → eventually all f s ≡ max (at f s) (min top (next all es (tab (eventually all f) S) s))
    solved s h = solves all S es G (everywhere S) f s h ∙ ap (λ (l : ℕ). step l (at f s) (next all es (tab (eventually all f) S) s)) (everywhere_at s h)

    pub eventually_small : (s : ℕ) → s < S → eventually all f s ≤ top
    eventually_small s h = let e = solved s h in let l = small s in omega arith

    -- f, or next
    pub eventually_unfolds : (s : ℕ) → s < S → eventually all f s ≡ max (at f s) (next all es (tab (eventually all f) S) s)
    eventually_unfolds s h = let e = solved s h in let l = next_small all (tab (eventually all f) S) (small_tab (eventually all f) eventually_small) s in omega arith

  -- and the least that is no less than that
  pub eventually_least : (all : Bool) (f X : List ℕ) → ((s : ℕ) → s < S → max (at f s) (next all es X s) ≤ at X s) → (s : ℕ) → s < S → eventually all f s ≤ at X s
  eventually_least all f X h = least all S es G (everywhere S) f X (λ s l. let a = h s l in omega arith)

  not_not : (b : Bool) → not (not b) ≡ b
  not_not false = refl
  not_not true = refl

  pub always_small : (all : Bool) (f : List ℕ) (s : ℕ) → always all f s ≤ top
  always_small all f s = omega arith

  module _ (all : Bool) (f : List ℕ) (small : Small f) where
    -- the row of always is the opposite of a row of eventually
    turned_row : opposite S (tab (eventually all (opposite S f)) S) ≡ tab (always all f) S
    unfolding opposite
    turned_row = tab_same _ _ S (λ s h. ap neg (tab_at (eventually all (opposite S f)) S s h))

    -- f, and next
    pub always_unfolds : (s : ℕ) → s < S → always all f s ≡ min (at f s) (next (not all) es (tab (always all f) S) s)
    always_unfolds s h =
        let e = eventually_unfolds all (opposite S f) (small_opposite f) s h in
        let o = opposite_at f s h in
        let l = small s in
        let n : next (not all) es (tab (always all f) S) s ≡ neg (next all es (tab (eventually all (opposite S f)) S) s) = ap (λ (r : List ℕ). next (not all) es r s) (sym turned_row) ∙ next_turned all (tab (eventually all (opposite S f)) S) s h in
        omega arith

    -- and the greatest that is no greater than that
    pub always_greatest : (X : List ℕ) → ((s : ℕ) → s < S → at X s ≤ min (at f s) (next (not all) es X s)) → (s : ℕ) → s < S → at X s ≤ always all f s
    always_greatest X h s l =
        let below = eventually_least all (opposite S f) (opposite S X) (λ t k. raised t k) s l in
        let x = opposite_at X s l in
        let a = h s l in
        let b = small s in
        omega arith
      where
        raised : (t : ℕ) → t < S → max (at (opposite S f) t) (next all es (opposite S X) t) ≤ at (opposite S X) t
        raised t k =
            let x = opposite_at X t k in
            let o = opposite_at f t k in
            let a = h t k in
            let n : next all es (opposite S X) t ≡ neg (next (not all) es X t) = ap (λ (b : Bool). next b es (opposite S X) t) (sym (not_not all)) ∙ next_turned (not all) X t k in
            omega arith
