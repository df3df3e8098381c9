-- Two numbers compared, a number told by the levels that it reaches, and numbers in a row that fall at no step.
use mathlib.Core.Path.{◌≡◌, refl, ap}
use Prim.Native.Nat.{ℕ, zero, suc, ◌≤◌, ◌<◌, max}
use native.Mathlib.Decide.{ℕ_discrete}
use native.Mathlib.Omega.{arith}
use mathlib.Core.Bool.{Bool, true, false}
use mathlib.Core.Logic.{◌⊎◌, inl, inr, ⊎_elim}
use native.Mathlib.Nat.{eq-or-lt_of_le}
use lib.Dec.{ltb}
use borrow.Author.Tests.{ltb-true, ltb-false}

pub lt_or_le : (a b : ℕ) → (a < b) ⊎ (b ≤ a)
lt_or_le a b = go (ltb a b) refl
  where
    go : (t : Bool) → ltb a b ≡ t → (a < b) ⊎ (b ≤ a)
    go true e = inl (ltb-true a b e)
    go false e = inr (ltb-false a b e)

pub same_or_not : (a b : ℕ) → (a ≡ b) ⊎ (a ≡ b → ⊥)
same_or_not a b = elim (ℕ_discrete a b) [ yes e ↦ inl e | no n ↦ inr n ]

-- a number below suc n is n or below n
pub last_or_before : {i n : ℕ} → i < suc n → (i ≡ n) ⊎ (i < n)
last_or_before h = eq-or-lt_of_le (omega arith)

pub reach_max : (w a b : ℕ) → w ≤ max a b → (w ≤ a) ⊎ (w ≤ b)
reach_max w a b h = ⊎_elim (λ (l : a < w). inr (omega arith)) inl (lt_or_le a w)

-- what falls at no step below n has fallen nowhere below n
module _ (f : ℕ → ℕ) (n : ℕ) (steps : (k : ℕ) → suc k < n → f k ≤ f (suc k)) where
  pub never_falls : (j k : ℕ) → j ≤ k → k < n → f j ≤ f k
  never_falls j zero l h = let e : j ≡ 0 = omega arith in omega (arith, ap f e)
  never_falls j (suc k) l h =
      ⊎_elim
      (λ (e : j ≡ suc k). omega (arith, ap f e))
      (λ (b : j < suc k). omega (arith, never_falls j k (omega arith) (omega arith), steps k h))
      (eq-or-lt_of_le l)
