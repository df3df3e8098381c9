-- Laws of `any_below`: a search that has found nothing yet, that finds something, and that ends.
use mathlib.Core.Path.{◌≡◌, refl, sym, ap, ◌∙◌, subst}
use Prim.Native.Nat.{ℕ, zero, suc, ◌+◌, ◌≤◌, ◌<◌}
use native.Mathlib.Numerals.{add-one}
use native.Mathlib.Omega.{arith}
use mathlib.Core.Bool.{Bool, true, false, ◌||◌, or-true}
use mathlib.Core.List.{List, [], ◌∷◌}
use lib.ListN.{length, get_or}
use Rattle.std.specs.List.{list_any}
use mathlib.Core.Logic.{⊎_elim}
use lib.Dec.{T}
use Rattle.lists.specs.Entries.{any_below}
use Rattle.lists.proofs.Numbers.{last_or_before}
use Rattle.lists.proofs.Tests.{or_neither}

pub any_zero : (p : ℕ → Bool) → any_below p 0 ≡ false
unfolding any_below
any_zero p = refl

-- one number more
pub any_more : (p : ℕ → Bool) (i : ℕ) (b t : Bool) → any_below p i ≡ b → p i ≡ t → any_below p (i + 1) ≡ (b || t)
unfolding any_below
any_more p i b t e h = rw (add-one i, e, h)

-- found at i, below n
pub any_found : (p : ℕ → Bool) (i n : ℕ) → i < n → p i ≡ true → any_below p n ≡ true
unfolding any_below
any_found p i zero l h = absurd (omega arith)
any_found p i (suc n) l h =
    ⊎_elim
    (λ (e : i ≡ n). ap (λ (b : Bool). any_below p n || b) (ap p (sym e) ∙ h) ∙ or-true (any_below p n))
    (λ (k : i < n). ap (λ (b : Bool). b || p n) (any_found p i n k h))
    (last_or_before l)

-- where a search that found something found it
pub any_where : (p : ℕ → Bool) (n : ℕ) → any_below p n ≡ true → (i : ℕ) × (i < n) × (p i ≡ true)
unfolding any_below
any_where p zero e = absurd (subst T (sym e) tt)
any_where p (suc n) e = go (any_below p n) refl (any_where p n)
  where
    go : (b : Bool) → any_below p n ≡ b → (any_below p n ≡ true → (i : ℕ) × (i < n) × (p i ≡ true)) → (i : ℕ) × (i < suc n) × (p i ≡ true)
    go true q before = let found = before q in (found.0, omega (arith, found.1), found.2)
    go false q before = (n, omega arith, ap (λ (b : Bool). b || p n) (sym q) ∙ e)

-- a search that has come to n
pub any_all : (p : ℕ → Bool) (i n : ℕ) (b : Bool) → any_below p i ≡ b → i ≤ n → n ≤ i → any_below p n ≡ b
any_all p i n b e h k = let q : n ≡ i = omega arith in ap (any_below p) q ∙ e

-- what a search that found nothing says of each number
pub any_none : (p : ℕ → Bool) (n : ℕ) → any_below p n ≡ false → (i : ℕ) → i < n → p i ≡ false
unfolding any_below
any_none p zero e i l = absurd (omega arith)
any_none p (suc n) e i l =
    let both = or_neither (any_below p n) (p n) e in
    ⊎_elim (λ (q : i ≡ n). ap p q ∙ both.1) (λ (k : i < n). any_none p n both.0 i k) (last_or_before l)

-- two searches by tests that agree
pub any_same : (p q : ℕ → Bool) (n : ℕ) → ((i : ℕ) → i < n → p i ≡ q i) → any_below p n ≡ any_below q n
unfolding any_below
any_same p q zero h = refl
any_same p q (suc n) h = cc (h n (omega arith), any_same p q n (λ i l. h i (omega arith)))

pub any_never : (n : ℕ) → any_below (λ (i : ℕ). false) n ≡ false
unfolding any_below
any_never zero = refl
any_never (suc n) = rw (any_never n)

or_or : (a b c : Bool) → ((a || b) || c) ≡ (a || (b || c))
or_or true b c = refl
or_or false b c = refl

any_first : (p : ℕ → Bool) (n : ℕ) → any_below p (suc n) ≡ (p 0 || any_below (λ (i : ℕ). p (suc i)) n)
unfolding any_below
any_first p zero = or_zero (p 0)
  where
    or_zero : (b : Bool) → (false || b) ≡ (b || false)
    or_zero true = refl
    or_zero false = refl
any_first p (suc n) = ap (λ (b : Bool). b || p (suc n)) (any_first p n) ∙ or_or (p 0) (any_below (λ (i : ℕ). p (suc i)) n) (p (suc n))

-- a search through the places is one through the entries; past the end stands d
pub any_list : {A : Type 0} → (p : A → Bool) (d : A) (xs : List A) → any_below (λ (i : ℕ). p (get_or xs i d)) (length xs) ≡ list_any p xs
unfolding any_below
any_list p d [] = refl
any_list p d (x ∷ xs) = any_first (λ (i : ℕ). p (get_or (x ∷ xs) i d)) (length xs) ∙ ap (λ (b : Bool). p x || b) (any_list p d xs)
