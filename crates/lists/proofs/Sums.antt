-- Sums of a rule over the numbers below n: a rule that is nowhere smaller and no smaller in all is the same.
use mathlib.Core.Path.{◌≡◌, sym, subst}
use Prim.Native.Nat.{ℕ, zero, suc, ◌+◌, ◌*◌, ◌≤◌, ◌<◌}
use mathlib.Core.Logic.{⊎_elim}
use native.Mathlib.Omega.{arith}
use Rattle.lists.proofs.Numbers.{last_or_before, lt_or_le}

unfoldable pub sum : (ℕ → ℕ) → ℕ → ℕ
sum f zero = 0
sum f (suc n) = sum f n + f n

pub sum_le : (f g : ℕ → ℕ) (n : ℕ) → ((s : ℕ) → s < n → f s ≤ g s) → sum f n ≤ sum g n
unfolding sum
sum_le f g zero h = omega arith
sum_le f g (suc n) h = omega (arith, h n (omega arith), sum_le f g n (λ s l. h s (omega arith)))

pub sum_same : (f g : ℕ → ℕ) (n : ℕ) → ((s : ℕ) → s < n → f s ≤ g s) → sum g n ≤ sum f n → (s : ℕ) → s < n → f s ≡ g s
unfolding sum
sum_same f g zero h t s l = absurd (omega arith)
sum_same f g (suc n) h t s l =
    let less : sum f n ≤ sum g n = sum_le f g n (λ s l. h s (omega arith)) in
    let here : f n ≤ g n = h n (omega arith) in
    ⊎_elim
    (λ (e : s ≡ n). subst (λ (x : ℕ). f x ≡ g x) (sym e) (omega arith))
    (λ (k : s < n). sum_same f g n (λ s l. h s (omega arith)) (omega arith) s k)
    (last_or_before l)

-- one that is nowhere smaller and at one place greater has a greater sum
pub sum_raised : (f g : ℕ → ℕ) (n s : ℕ) → s < n → ((t : ℕ) → t < n → f t ≤ g t) → f s < g s → sum f n < sum g n
sum_raised f g n s h le l = ⊎_elim (λ k. k) (λ (k : sum g n ≤ sum f n). absurd (omega (arith, sum_same f g n le k s h))) (lt_or_le (sum f n) (sum g n))

pub sum_const : (k n : ℕ) → sum (λ (s : ℕ). k) n ≡ n * k
unfolding sum
sum_const k zero = omega arith
sum_const k (suc n) = omega (arith, sum_const k n)
