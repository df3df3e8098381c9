-- Laws of `at`, `Some` and `All`: lists read entry by entry.
use mathlib.Core.Path.{◌≡◌, refl, sym, subst}
use Prim.Native.Nat.{ℕ, zero, suc, ◌<◌}
use mathlib.Core.List.Memᴰ
use mathlib.Core.List.{List, [], ◌∷◌, ◌++◌, map, Memᴰ}
use mathlib.Core.Bool.{false}
use mathlib.Core.Logic.{◌⊎◌, inl, inr, ⊎_elim}
use native.Mathlib.Omega.{arith}
use lib.ListN.{length, get_or, replicate, set}
use lib.Seq.{get_or-set_same, get_or-set_other}
use lib.Dec.{T}
use Rattle.lists.specs.Entries.{All, Some, at, is_nil}
use Rattle.lists.proofs.Numbers.{same_or_not}

-- of a list of one value, that value stands everywhere
pub same_at : {A : Type 0} (z : A) (n s : ℕ) → get_or (replicate n z) s z ≡ z
same_at z zero s = refl
same_at z (suc n) zero = refl
same_at z (suc n) (suc s) = same_at z n s

-- what stands at s after a store at a
pub set_or_not : {A : Type 0} (z : A) (d : List A) (a : ℕ) (x : A) (s : ℕ) → a < length d → ((s ≡ a) × (get_or (set d a x) s z ≡ x)) ⊎ ((s ≡ a → ⊥) × (get_or (set d a x) s z ≡ get_or d s z))
set_or_not z d a x s h = ⊎_elim (λ e. inl (e, rw e (get_or-set_same d a x z h))) (λ n. inr (n, get_or-set_other d a s x z n)) (same_or_not s a)

pub some_map {ℓ κ} : {A : Type ℓ} {B : Type κ} (f : A → B) (xs : List A) → Some xs → Some (map f xs)
some_map f [] h = h
some_map f (x ∷ xs) h = tt

pub some_append {ℓ} : {A : Type ℓ} (xs ys : List A) → Some xs → Some (xs ++ ys)
some_append [] ys h = absurd h
some_append (x ∷ xs) ys h = tt

pub some_member {ℓ} : {A : Type ℓ} {x : A} (xs : List A) → Memᴰ x xs → Some xs
some_member [] m = absurd (Memᴰ.not-nil m)
some_member (x ∷ xs) m = tt

pub some_of {ℓ} : {A : Type ℓ} (xs : List A) → is_nil xs ≡ false → Some xs
some_of [] e = subst T e tt
some_of (x ∷ xs) e = tt

pub nil_of {ℓ} : {A : Type ℓ} (xs : List A) → Some xs → is_nil xs ≡ false
nil_of [] h = absurd h
nil_of (x ∷ xs) h = refl

-- what holds of each entry holds at each place, and back; past the end stands d
pub all_get : {A : Type 0} (P : A → Type 0) (d : A) (xs : List A) → All P xs → (k : ℕ) → k < length xs → P (get_or xs k d)
all_get P d [] a k h = absurd (omega arith)
all_get P d (x ∷ xs) a zero h = a.0
all_get P d (x ∷ xs) a (suc k) h = all_get P d xs a.1 k (omega arith)

pub all_from : {A : Type 0} (P : A → Type 0) (d : A) (xs : List A) → ((k : ℕ) → k < length xs → P (get_or xs k d)) → All P xs
all_from P d [] h = tt
all_from P d (x ∷ xs) h = (h 0 (omega arith), all_from P d xs (λ k l. h (suc k) (omega arith)))

pub all_at : (P : ℕ → Type 0) (xs : List ℕ) → All P xs → (i : ℕ) → i < length xs → P (at xs i)
all_at P xs = all_get P 0 xs

pub all_member : {A : Type 0} (P : A → Type 0) (xs : List A) → All P xs → (x : A) → Memᴰ x xs → P x
all_member {A = A} P [] a x m = elim m [ ]
all_member P (y ∷ ys) a x (Memᴰ.head e) = subst P (sym e) a.0
all_member P (y ∷ ys) a x (Memᴰ.tail m) = all_member P ys a.1 x m

pub member_all : {A : Type 0} (P : A → Type 0) (xs : List A) → ((x : A) → Memᴰ x xs → P x) → All P xs
member_all P [] h = tt
member_all P (x ∷ xs) h = (h x (Memᴰ.head refl), member_all P xs (λ y m. h y (Memᴰ.tail m)))

pub all_weaken : {A : Type 0} (P Q : A → Type 0) → ((x : A) → P x → Q x) → (xs : List A) → All P xs → All Q xs
all_weaken P Q h [] a = tt
all_weaken P Q h (x ∷ xs) a = (h x a.0, all_weaken P Q h xs a.1)

-- two rules that agree on the entries give the same list
pub map_all : {A : Type 0} (P : A → Type 0) (f g : A → ℕ) → ((x : A) → P x → f x ≡ g x) → (xs : List A) → All P xs → map f xs ≡ map g xs
map_all P f g h [] a = refl
map_all P f g h (x ∷ xs) a = cc (h x a.0, map_all P f g h xs a.1)

pub map_same : {A : Type 0} (f g : A → ℕ) → ((x : A) → f x ≡ g x) → (xs : List A) → map f xs ≡ map g xs
map_same f g h xs = map_all (λ x. Unit {0}) f g (λ x u. h x) xs (member_all (λ x. Unit {0}) xs (λ x m. tt))
