-- IEEE 754's order: through a middle value it goes on, of two values that are no NaN one is at most the other, and a NaN is at most nothing.
-- A finite value is the difference of two fractions, one of which is 0, so that the four pairs of signs are one inequality.
use mathlib.Core.Path.{◌≡◌, refl, sym, ◌∙◌}
use mathlib.Core.Bool.{Bool, true, false, ◌&&◌, ◌||◌, true≢false}
use mathlib.Core.Logic.{◌⊎◌, inl, inr, ⊎_elim}
use Prim.Native.Nat.{ℕ, ◌+◌, ◌*◌, ◌≤◌, ◌<◌}
use native.Mathlib.Nat.{zero-mul, add-mul, mul_right_comm, mul-le-mul_right, le_of_mul-le-mul_right}
use native.Mathlib.Omega.{arith}
use lib.Dec.{ltb, eqb}
use lib.IntN.{ℤ}
use lib.Ieee.{Float, nan, inf, fin, up, down, le, below, level}
use lib.Ieee.Positive.{den_pos}
use borrow.Author.Tests.{ltb-true, lt-ltb, eqb-true, eq-eqb}
use Rattle.lists.proofs.Numbers.{lt_or_le}
use Rattle.lists.proofs.Tests.{or_left, or_right, and_both, and_parts}

-- the part of ±a above zero, and the part below
abbrev plus : Bool → ℕ → ℕ
plus false a = a
plus true a = 0

abbrev minus : Bool → ℕ → ℕ
minus false a = 0
minus true a = a

-- ±a is at most ±b
abbrev AtMost : Bool → ℕ → Bool → ℕ → Type 0
AtMost s a t b = plus s a + minus t b ≤ plus t b + minus s a

either : (a b : Bool) → (a || b) ≡ true → (a ≡ true) ⊎ (b ≡ true)
either true b e = inl refl
either false b e = inr e

out : (s : Bool) (a : ℕ) (t : Bool) (b : ℕ) → (below s a t b || level s a t b) ≡ true → AtMost s a t b
out false a false b h =
    ⊎_elim (λ (e : ltb a b ≡ true). omega (arith, ltb-true a b e)) (λ (e : (eqb a b && true) ≡ true). omega (arith, eqb-true a b (and_parts (eqb a b) true e).0)) (either (ltb a b) _ h)
out false a true b h =
    let p = and_parts (eqb a b) (eqb a 0) h in
    omega (arith, eqb-true a b p.0, eqb-true a 0 p.1)
out true a false b h = omega arith
out true a true b h =
    ⊎_elim (λ (e : ltb b a ≡ true). omega (arith, ltb-true b a e)) (λ (e : (eqb a b && true) ≡ true). omega (arith, eqb-true a b (and_parts (eqb a b) true e).0)) (either (ltb b a) _ h)

back : (s : Bool) (a : ℕ) (t : Bool) (b : ℕ) → AtMost s a t b → (below s a t b || level s a t b) ≡ true
back false a false b h =
    ⊎_elim (λ (l : a < b). or_left (ltb a b) _ (lt-ltb a b l)) (λ (l : b ≤ a). or_right (ltb a b) _ (and_both (eqb a b) true (eq-eqb a b (omega arith)) refl)) (lt_or_le a b)
back false a true b h = and_both (eqb a b) (eqb a 0) (eq-eqb a b (omega arith)) (eq-eqb a 0 (omega arith))
back true a false b h =
    ⊎_elim (λ (l : 0 < a + b). or_left (ltb 0 (a + b)) _ (lt-ltb 0 (a + b) l))
    (λ (l : a + b ≤ 0). or_right (ltb 0 (a + b)) _ (and_both (eqb a b) (eqb a 0) (eq-eqb a b (omega arith)) (eq-eqb a 0 (omega arith))))
    (lt_or_le 0 (a + b))
back true a true b h =
    ⊎_elim (λ (l : b < a). or_left (ltb b a) _ (lt-ltb b a l)) (λ (l : a ≤ b). or_right (ltb b a) _ (and_both (eqb a b) true (eq-eqb a b (omega arith)) refl)) (lt_or_le b a)

plus_mul : (s : Bool) (p k : ℕ) → plus s (p * k) ≡ plus s p * k
plus_mul false p k = refl
plus_mul true p k = sym (zero-mul k)

minus_mul : (s : Bool) (p k : ℕ) → minus s (p * k) ≡ minus s p * k
minus_mul false p k = sym (zero-mul k)
minus_mul true p k = refl

-- three differences of fractions, a − a' over P, b − b' over Q, c − c' over R
through_fractions : (a a' b b' c c' P Q R : ℕ) → 0 < Q → a * Q + b' * P ≤ b * P + a' * Q → b * R + c' * Q ≤ c * Q + b' * R → a * R + c' * P ≤ c * P + a' * R
through_fractions a a' b b' c c' P Q R q h k =
    let h' = simp add-mul at (mul-le-mul_right R h) in
    let k' = simp add-mul at (mul-le-mul_right P k) in
    let goal : (a * R + c' * P) * Q ≤ (c * P + a' * R) * Q =
    simp add-mul
    (omega (arith, h', k', mul_right_comm a R Q, mul_right_comm c' P Q, mul_right_comm c P Q, mul_right_comm a' R Q, mul_right_comm b R P, mul_right_comm b' R P)) in
    le_of_mul-le-mul_right goal q

-- the same of finite values, each its own fraction
abbrev Below : Bool → ℕ → ℤ → Bool → ℕ → ℤ → Type 0
Below s m e t n d = plus s (m * up e) * down d + minus t (n * up d) * down e ≤ plus t (n * up d) * down e + minus s (m * up e) * down d

finite_out : (s : Bool) (m : ℕ) (e : ℤ) (t : Bool) (n : ℕ) (d : ℤ) → le (fin s m e) (fin t n d) ≡ true → Below s m e t n d
unfolding le
finite_out s m e t n d h =
    let l = out s (m * up e * down d) t (n * up d * down e) h in
    omega (arith, l, plus_mul s (m * up e) (down d), minus_mul t (n * up d) (down e), plus_mul t (n * up d) (down e), minus_mul s (m * up e) (down d))

finite_back : (s : Bool) (m : ℕ) (e : ℤ) (t : Bool) (n : ℕ) (d : ℤ) → Below s m e t n d → le (fin s m e) (fin t n d) ≡ true
unfolding le
finite_back s m e t n d h =
    back s (m * up e * down d) t (n * up d * down e)
    (omega (arith, plus_mul s (m * up e) (down d), minus_mul t (n * up d) (down e), plus_mul t (n * up d) (down e), minus_mul s (m * up e) (down d)))

-- a NaN is at most nothing, and nothing is at most a NaN
pub above_nan : (x : Float) → le x nan ≡ false
unfolding le
above_nan nan = refl
above_nan (inf true) = refl
above_nan (inf false) = refl
above_nan (fin s m e) = refl

pub le_trans : (x y z : Float) → le x y ≡ true → le y z ≡ true → le x z ≡ true
unfolding le
le_trans nan y z p q = p
le_trans (inf true) y nan p q = sym (above_nan y) ∙ q
le_trans (inf true) y (inf true) p q = refl
le_trans (inf true) y (inf false) p q = refl
le_trans (inf true) y (fin u r c) p q = refl
le_trans (inf false) nan z p q = absurd (true≢false (sym p))
le_trans (inf false) (inf true) z p q = absurd (true≢false (sym p))
le_trans (inf false) (inf false) z p q = q
le_trans (inf false) (fin t n d) z p q = absurd (true≢false (sym p))
le_trans (fin s m e) nan z p q = absurd (true≢false (sym p))
le_trans (fin s m e) (inf true) z p q = absurd (true≢false (sym p))
le_trans (fin s m e) (inf false) nan p q = q
le_trans (fin s m e) (inf false) (inf true) p q = q
le_trans (fin s m e) (inf false) (inf false) p q = refl
le_trans (fin s m e) (inf false) (fin u r c) p q = absurd (true≢false (sym q))
le_trans (fin s m e) (fin t n d) nan p q = q
le_trans (fin s m e) (fin t n d) (inf true) p q = q
le_trans (fin s m e) (fin t n d) (inf false) p q = refl
le_trans (fin s m e) (fin t n d) (fin u r c) p q =
    finite_back s m e u r c
    (through_fractions (plus s (m * up e)) (minus s (m * up e)) (plus t (n * up d)) (minus t (n * up d)) (plus u (r * up c)) (minus u (r * up c)) (down e) (down d) (down c)
    (den_pos (fin t n d)) (finite_out s m e t n d p) (finite_out t n d u r c q))

-- of two values that are no NaN one is at most the other; each is at most itself
pub le_total : (x y : Float) → le x x ≡ true → le y y ≡ true → (le x y ≡ true) ⊎ (le y x ≡ true)
unfolding le
le_total nan y p q = absurd (true≢false (sym p))
le_total (inf s) nan p q = absurd (true≢false (sym q))
le_total (inf true) (inf true) p q = inl refl
le_total (inf true) (inf false) p q = inl refl
le_total (inf false) (inf true) p q = inr refl
le_total (inf false) (inf false) p q = inl refl
le_total (inf true) (fin t n d) p q = inl refl
le_total (inf false) (fin t n d) p q = inr refl
le_total (fin s m e) nan p q = absurd (true≢false (sym q))
le_total (fin s m e) (inf true) p q = inr refl
le_total (fin s m e) (inf false) p q = inl refl
le_total (fin s m e) (fin t n d) p q =
    ⊎_elim (λ (l : plus s (m * up e) * down d + minus t (n * up d) * down e < plus t (n * up d) * down e + minus s (m * up e) * down d). inl (finite_back s m e t n d (omega arith)))
    (λ (l : plus t (n * up d) * down e + minus s (m * up e) * down d ≤ plus s (m * up e) * down d + minus t (n * up d) * down e). inr (finite_back t n d s m e (omega arith)))
    (lt_or_le _ _)

pub le_first : (x y : Float) → le x y ≡ true → le x x ≡ true
unfolding le
le_first nan y p = p
le_first (inf true) y p = refl
le_first (inf false) y p = refl
le_first (fin s m e) y p = finite_back s m e s m e (omega arith)

pub le_second : (x y : Float) → le x y ≡ true → le y y ≡ true
unfolding le
le_second x nan p = absurd (true≢false (sym p ∙ above_nan x))
le_second x (inf true) p = refl
le_second x (inf false) p = refl
le_second x (fin t n d) p = finite_back t n d t n d (omega arith)

-- only a NaN isn't at most itself
pub not_itself : (x : Float) → le x x ≡ false → x ≡ nan
unfolding le
not_itself nan e = refl
not_itself (inf true) e = absurd (true≢false e)
not_itself (inf false) e = absurd (true≢false e)
not_itself (fin s m d) e = absurd (true≢false (sym (finite_back s m d s m d (omega arith)) ∙ e))
