-- Tests joined by or and by and, from their parts and back.
use mathlib.Core.Path.{◌≡◌, refl, sym, ap, ◌∙◌}
use Prim.Native.Nat.{ℕ, ◌≤◌, ◌<◌}
use mathlib.Core.Bool.{Bool, true, false, not, ◌&&◌, ◌||◌, or-true, or-false, true≢false}
use mathlib.Core.Logic.{◌⊎◌, inl, inr, ⊎_elim}
use lib.Dec.{ltb, leb}
use borrow.Author.Tests.{lt-ltb, le-ltb, le-leb, lt-leb}
use Rattle.lists.proofs.Numbers.{lt_or_le}

pub or_left : (a b : Bool) → a ≡ true → (a || b) ≡ true
or_left a b e = ap (λ (x : Bool). x || b) e

pub or_right : (a b : Bool) → b ≡ true → (a || b) ≡ true
or_right a b e = ap (λ (x : Bool). a || x) e ∙ or-true a

pub or_none : (a b : Bool) → a ≡ false → b ≡ false → (a || b) ≡ false
or_none a b e h = ap (λ (x : Bool). x || b) e ∙ h

pub or_neither : (a b : Bool) → (a || b) ≡ false → (a ≡ false) × (b ≡ false)
or_neither false b e = (refl, e)
or_neither true b e = absurd (true≢false e)

pub and_both : (a b : Bool) → a ≡ true → b ≡ true → (a && b) ≡ true
and_both a b e h = ap (λ (x : Bool). x && b) e ∙ h

pub and_holds : (a b : Bool) → a ≡ true → (a && b) ≡ b
and_holds a b e = ap (λ (x : Bool). x && b) e

pub and_fails : (a b : Bool) → a ≡ false → (a && b) ≡ false
and_fails a b e = ap (λ (x : Bool). x && b) e

pub and_parts : (a b : Bool) → (a && b) ≡ true → (a ≡ true) × (b ≡ true)
and_parts true b e = (refl, e)
and_parts false b e = absurd (true≢false (sym e))

pub or_fails : (a b : Bool) → a ≡ false → (a || b) ≡ b
or_fails a b e = ap (λ (x : Bool). x || b) e

-- a flag that is set where a test holds and otherwise stays says whether it was set or the test holds
pub remembered : (was test now : Bool) → ((test ≡ true) × (now ≡ true)) ⊎ ((test ≡ false) × (now ≡ was)) → (was || test) ≡ now
remembered was test now (inl p) = or_right was test p.0 ∙ sym p.1
remembered was test now (inr p) = ap (λ (x : Bool). was || x) p.0 ∙ or-false was ∙ sym p.1

-- not below is at least
pub not_ltb : (a b : ℕ) → not (ltb a b) ≡ leb b a
not_ltb a b = ⊎_elim (λ (h : a < b). ap not (lt-ltb a b h) ∙ sym (lt-leb b a h)) (λ (h : b ≤ a). ap not (le-ltb a b h) ∙ sym (le-leb b a h)) (lt_or_le a b)
