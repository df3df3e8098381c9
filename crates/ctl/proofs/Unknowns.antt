-- Settling unknown labels changes no true or false verdict, and without unknown labels there is no unknown verdict: two relations that not, and, or keep.
use mathlib.Core.Path.{◌≡◌, refl, ap, ap₂}
use Prim.Native.Nat.{ℕ, ◌≤◌, min, max}
use mathlib.Core.Bool.{Bool, true, false}
use mathlib.Core.Logic.{◌⊎◌, inl, inr, ⊎_elim}
use native.Mathlib.Omega.{arith}
use lib.Dec.{eqb}
use borrow.Author.Tests.{eqb-true, eqb-false}
use Rattle.values.specs.Values.{neg, top}
use Rattle.ctl.proofs.Related.{Kleene}
use Rattle.kripke.proofs.Related.{Kept}

-- two values up to 2, the first unknown or the same as the second
pub record UnknownOrSame (a b : ℕ) : Type 0 where
  pub low : a ≤ top
  pub low' : b ≤ top
  pub same : (a ≡ 1) ⊎ (a ≡ b)

settles_of : (a b : ℕ) → a ≤ top → b ≤ top → (a ≡ 1) ⊎ (a ≡ b) → UnknownOrSame a b
settles_of a b h k d = record { low = h; low' = k; same = d }

-- one or the other, told by a third: if a is not 1 the two are the same
unless_one : (a b : ℕ) → ((a ≡ 1 → ⊥) → a ≡ b) → (a ≡ 1) ⊎ (a ≡ b)
unless_one a b h = go (eqb a 1) refl
  where
    go : (t : Bool) → eqb a 1 ≡ t → (a ≡ 1) ⊎ (a ≡ b)
    go true e = inl (eqb-true a 1 e)
    go false e = inr (h (eqb-false a 1 e))

min_settles : (a b x y : ℕ) → (a ≡ 1) ⊎ (a ≡ b) → (x ≡ 1) ⊎ (x ≡ y) → (min a x ≡ 1) ⊎ (min a x ≡ min b y)
min_settles a b x y (inl p) (inl q) = inl (omega arith)
min_settles a b x y (inl p) (inr q) = unless_one (min a x) (min b y) (λ n. omega arith)
min_settles a b x y (inr p) (inl q) = unless_one (min a x) (min b y) (λ n. omega arith)
min_settles a b x y (inr p) (inr q) = inr (ap₂ min p q)

max_settles : (a b x y : ℕ) → b ≤ top → y ≤ top → (a ≡ 1) ⊎ (a ≡ b) → (x ≡ 1) ⊎ (x ≡ y) → (max a x ≡ 1) ⊎ (max a x ≡ max b y)
max_settles a b x y h k (inl p) (inl q) = inl (omega arith)
max_settles a b x y h k (inl p) (inr q) = unless_one (max a x) (max b y) (λ n. omega arith)
max_settles a b x y h k (inr p) (inl q) = unless_one (max a x) (max b y) (λ n. omega arith)
max_settles a b x y h k (inr p) (inr q) = inr (ap₂ max p q)

settling_kept : Kept UnknownOrSame
settling_kept =
    record {
      none = settles_of 0 0 (omega arith) (omega arith) (inr refl);
      least = λ a b x y p q. settles_of (min a x) (min b y) (omega (arith, p.low)) (omega (arith, p.low')) (min_settles a b x y p.same q.same);
      greatest = λ a b x y p q. settles_of (max a x) (max b y) (omega (arith, p.low, q.low)) (omega (arith, p.low', q.low')) (max_settles a b x y p.low' q.low' p.same q.same);
    }

neg_settles : (a b : ℕ) → UnknownOrSame a b → UnknownOrSame (neg a) (neg b)
neg_settles a b p = settles_of (neg a) (neg b) (omega arith) (omega arith) (⊎_elim (λ (e : a ≡ 1). inl (omega arith)) (λ (e : a ≡ b). inr (ap neg e)) p.same)

pub settling_kleene : Kleene UnknownOrSame
settling_kleene = record { kept = settling_kept; true_true = settles_of top top (omega arith) (omega arith) (inr refl); turned = neg_settles }

-- no unknown: 0 or 2
abbrev pub Known : ℕ → ℕ → Type 0
Known a b = (a ≡ 0) ⊎ (a ≡ 2)

known_min : (a x : ℕ) → (a ≡ 0) ⊎ (a ≡ 2) → (x ≡ 0) ⊎ (x ≡ 2) → (min a x ≡ 0) ⊎ (min a x ≡ 2)
known_min a x (inl p) q = inl (omega arith)
known_min a x (inr p) (inl q) = inl (omega arith)
known_min a x (inr p) (inr q) = inr (omega arith)

known_max : (a x : ℕ) → (a ≡ 0) ⊎ (a ≡ 2) → (x ≡ 0) ⊎ (x ≡ 2) → (max a x ≡ 0) ⊎ (max a x ≡ 2)
known_max a x (inl p) (inl q) = inl (omega arith)
known_max a x (inl p) (inr q) = inr (omega arith)
known_max a x (inr p) (inl q) = inr (omega arith)
known_max a x (inr p) (inr q) = inr (omega arith)

pub known_kleene : Kleene Known
known_kleene =
    record {
      kept = record { none = inl refl; least = λ a b x y p q. known_min a x p q; greatest = λ a b x y p q. known_max a x p q };
      true_true = inr refl;
      turned = λ a b p. ⊎_elim (λ (e : a ≡ 0). inr (omega arith)) (λ (e : a ≡ 2). inl (omega arith)) p;
    }
