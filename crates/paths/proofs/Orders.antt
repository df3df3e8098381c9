-- Laws of the order of lists: nothing is smaller than itself, smaller and smaller again is smaller, and the least of a kind is one.
use mathlib.Core.Path.{◌≡◌, sym, ◌∙◌}
use Prim.Native.Nat.{ℕ}
use mathlib.Core.List.{List, [], ◌∷◌}
use mathlib.Core.Logic.{◌⊎◌, inl, inr}
use native.Mathlib.Omega.{arith}
use Rattle.paths.specs.Order.{Least, Smaller}

pub smaller_irrefl : (p : List ℕ) → Smaller p p → ⊥
smaller_irrefl [] x' = elim x' [ ]
smaller_irrefl (a ∷ p) (inl h) = omega arith
smaller_irrefl (a ∷ p) (inr h) = smaller_irrefl p h.1

pub smaller_trans : (p q r : List ℕ) → Smaller p q → Smaller q r → Smaller p r
smaller_trans [] [] r x y = elim x [ ]
smaller_trans [] (b ∷ q) [] x y = elim y [ ]
smaller_trans (a ∷ p) [] r x y = elim x [ ]
smaller_trans (a ∷ p) (b ∷ q) [] x y = elim y [ ]
smaller_trans [] (b ∷ q) (c ∷ r) x y = tt
smaller_trans (a ∷ p) (b ∷ q) (c ∷ r) (inl x) (inl y) = inl (omega arith)
smaller_trans (a ∷ p) (b ∷ q) (c ∷ r) (inl x) (inr y) = inl (omega (arith, y.0))
smaller_trans (a ∷ p) (b ∷ q) (c ∷ r) (inr x) (inl y) = inl (omega (arith, x.0))
smaller_trans (a ∷ p) (b ∷ q) (c ∷ r) (inr x) (inr y) = inr (x.0 ∙ y.0, smaller_trans p q r x.1 y.1)

pub least_one : {P : List ℕ → Type 0} {p q : List ℕ} → Least P p → Least P q → p ≡ q
least_one {P} {p} {q} x y = go (x.least q y.is) (y.least p x.is)
  where
    go : (p ≡ q) ⊎ Smaller p q → (q ≡ p) ⊎ Smaller q p → p ≡ q
    go (inl e) b = e
    go (inr a) (inl e) = sym e
    go (inr a) (inr b) = absurd (smaller_irrefl p (smaller_trans p q p a b))
