-- The successors of a state as its transitions are passed one after the other, and what `has` and `first_fit` say of them.
use mathlib.Core.Path.{◌≡◌, refl, sym, ap}
use Prim.Native.Nat.{ℕ, ◌≤◌, ◌<◌}
use mathlib.Core.List.Memᴰ
use mathlib.Core.List.{List, [], ◌∷◌, Memᴰ}
use mathlib.Core.Bool.{Bool, true, false, cond, ◌&&◌, ◌||◌, true≢false}
use mathlib.Core.Logic.{◌⊎◌, inl, inr, ⊎_elim}
use lib.Dec.{eqb, leb}
use borrow.Author.Tests.{le-leb, lt-leb, eq-eqb, ne_eqb, eqb-true, eqb-false}
use Rattle.std.specs.Prelude.{Some}
use Rattle.lists.specs.Entries.{at}
use Rattle.lists.proofs.Tests.{and_both, and_fails, or_neither}
use Rattle.kripke.specs.Transitions.{Edge, succs}
use Rattle.kripke.proofs.Successors.{edge_succ, succ_edge}
use Rattle.paths.specs.Inside.{first_fit, has}

-- the scan for the first that fits
module _ (d : List ℕ) (want above t : ℕ) (ts : List ℕ) where
  pub fit_passed : (t < above) ⊎ (at d t ≡ want → ⊥) → first_fit d want above (t ∷ ts) ≡ first_fit d want above ts
  unfolding first_fit
  fit_passed n = ap (λ (b : Bool). cond b (Some t) (first_fit d want above ts)) (test n)
    where
      test : (t < above) ⊎ (at d t ≡ want → ⊥) → (leb above t && eqb (at d t) want) ≡ false
      test (inl l) = and_fails _ _ (lt-leb above t l)
      test (inr f) = go (leb above t) (ne_eqb (at d t) want f)
        where
          go : (b : Bool) {x : Bool} → x ≡ false → (b && x) ≡ false
          go true e = e
          go false e = refl

  pub fit_here : above ≤ t → at d t ≡ want → first_fit d want above (t ∷ ts) ≡ Some t
  unfolding first_fit
  fit_here l f = ap (λ (b : Bool). cond b (Some t) (first_fit d want above ts)) (and_both _ _ (le-leb above t l) (eq-eqb (at d t) want f))

-- what the tests say of transitions
has_member : (t : ℕ) (xs : List ℕ) → has t xs ≡ true → Memᴰ t xs
unfolding has
has_member t [] e = absurd (true≢false (sym e))
has_member t (x ∷ xs) e = go (eqb x t) refl e (has_member t xs)
  where
    go : (b : Bool) → eqb x t ≡ b → (b || has t xs) ≡ true → (has t xs ≡ true → Memᴰ t xs) → Memᴰ t (x ∷ xs)
    go true q r later = Memᴰ.head (sym (eqb-true x t q))
    go false q r later = Memᴰ.tail (later r)

not_member : (t : ℕ) (xs : List ℕ) → has t xs ≡ false → Memᴰ t xs → ⊥
unfolding has
not_member t [] e m = Memᴰ.not-nil m
not_member t (x ∷ xs) e m =
    let p = or_neither _ _ e in
    ⊎_elim (λ q. eqb-false x t p.0 (sym q)) (λ k. not_member t xs p.1 k) (Memᴰ.cases_cons m)

pub has_edge : (es : List ℕ) (s t : ℕ) → has t (succs es s) ≡ true → Edge es s t
has_edge es s t e = succ_edge es s t (has_member t (succs es s) e)

pub no_edge : (es : List ℕ) (s t : ℕ) → has t (succs es s) ≡ false → Edge es s t → ⊥
no_edge es s t e m = not_member t (succs es s) e (edge_succ es s t m)
