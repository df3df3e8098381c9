-- A relation between values that min and max keep holds of two untils if it holds of their rows.
use mathlib.Core.Path.{◌≡◌, refl, ap₂}
use Prim.Native.Nat.{ℕ, ◌≤◌, min, max}
use native.Mathlib.Omega.{arith}
use mathlib.Core.List.{List, [], ◌∷◌, map}
use mathlib.Core.Bool.{Bool, true, false}
use Rattle.kripke.specs.Transitions.{succs}
use Rattle.kripke.specs.Until.{next, step, until, until_value}
use Rattle.values.specs.Values.{choose, top}
use Rattle.kripke.specs.Walks.{walks}
use Rattle.lists.specs.Choosing.{best}
use Rattle.lists.specs.Entries.{at}
use Rattle.kripke.proofs.Steps.{value_cons, value_nil}
use Rattle.lists.proofs.Choosing.{best_related}
use Rattle.lists.proofs.Entries.{member_all}

-- a relation that goes through the smaller and the greater of two values
pub record Kept (Rel : ℕ → ℕ → Type 0) : Type 0 where
  pub none : Rel 0 0
  pub least : (a b x y : ℕ) → Rel a b → Rel x y → Rel (min a x) (min b y)
  pub greatest : (a b x y : ℕ) → Rel a b → Rel x y → Rel (max a x) (max b y)

module _ (Rel : ℕ → ℕ → Type 0) (K : Kept Rel) where
  pub choose_related : (all : Bool) (a b x y : ℕ) → Rel a b → Rel x y → Rel (choose all a x) (choose all b y)
  choose_related false = K.greatest
  choose_related true = K.least

  pub step_related : (l m r q v w : ℕ) → Rel l m → Rel r q → Rel v w → Rel (step l r v) (step m q w)
  step_related l m r q v w a b c = K.greatest r q (min l v) (min m w) b (K.least l m v w a c)

  -- two rows, at every state
  abbrev pub RowRelated : List ℕ → List ℕ → Type 0
  RowRelated xs ys = (s : ℕ) → Rel (at xs s) (at ys s)

  pub best_rows : (all : Bool) {A : Type 0} (f g : A → ℕ) → ((x : A) → Rel (f x) (g x)) → (xs : List A) → Rel (best (choose all) (map f xs)) (best (choose all) (map g xs))
  best_rows all {A} f g h xs = best_related (choose all) f g Rel K.none (choose_related all) xs (member_all (λ (x : A). Rel (f x) (g x)) xs (λ x m. h x))

  pub next_related : (all : Bool) (es L M : List ℕ) → RowRelated L M → (s : ℕ) → Rel (next all es L s) (next all es M s)
  unfolding next
  next_related all es L M l s = best_rows all (at L) (at M) l (succs es s)

  value_related : (L M R Q : List ℕ) → RowRelated L M → RowRelated R Q → (w : List ℕ) → Rel (until_value L R w) (until_value M Q w)
  value_related L M R Q l r [] = rw (value_nil L R, value_nil M Q) K.none
  value_related L M R Q l r (s ∷ w) = rw (value_cons L R s w, value_cons M Q s w) (step_related (at L s) (at M s) (at R s) (at Q s) (until_value L R w) (until_value M Q w) (l s) (r s) (value_related L M R Q l r w))

  pub until_related : (all : Bool) (es L M R Q : List ℕ) → RowRelated L M → RowRelated R Q → (n s : ℕ) → Rel (until all es L R n s) (until all es M Q n s)
  unfolding until
  until_related all es L M R Q l r n s = best_rows all (until_value L R) (until_value M Q) (value_related L M R Q l r) (walks es n s)

-- values stay within 0 to 2
pub small_kept : Kept (λ (a b : ℕ). a ≤ top)
small_kept = record { none = omega arith; least = λ a b x y h k. omega arith; greatest = λ a b x y h k. omega arith }

-- equal values give equal values
pub equal_kept : Kept (λ (a b : ℕ). a ≡ b)
equal_kept = record { none = refl; least = λ a b x y e h. ap₂ min e h; greatest = λ a b x y e h. ap₂ max e h }
