-- Where a state's transitions begin, found by halving: what is known before low and from high on stays known as the two close in on the place.
use mathlib.Core.Path.{◌≡◌}
use Prim.Native.Nat.{ℕ, zero, suc, ◌+◌, ◌*◌, ◌^◌, ◌≤◌, ◌<◌}
use mathlib.Core.List.{List}
use native.Mathlib.Omega.{arith}
use native.Mathlib.Nat.{pow-succ'}
use lib.Ieee.{size}
use lib.Ieee.Digits.{size-le, size-lt}
use Rattle.kripke.specs.Transitions.{Ascending, count, first_out, from}
use Rattle.kripke.proofs.Begins.{first_is, froms_rise}
use Rattle.lists.proofs.Numbers.{never_falls}

-- before low every transition is from an earlier state than s, from high on none is
pub record Between (es : List ℕ) (s low high : ℕ) : Type 0 where
  pub order : low ≤ high
  pub within : high ≤ count es
  pub before : (k : ℕ) → k < low → from es k < s
  pub behind : (k : ℕ) → high ≤ k → k < count es → s ≤ from es k

pub between_all : (es : List ℕ) (s : ℕ) → Between es s 0 (count es)
between_all es s = record { order = omega arith; within = omega arith; before = λ k l. absurd (omega arith); behind = λ k l h. absurd (omega arith) }

module _ (es : List ℕ) (asc : Ascending es) (s low high middle : ℕ) (b : Between es s low high) (inside : middle < high) where
  -- a later transition is from the same state or a later one
  later : (j k : ℕ) → j ≤ k → k < count es → from es j ≤ from es k
  later = never_falls (from es) (count es) (froms_rise es asc)

  pub upper_half : from es middle < s → Between es s (middle + 1) high
  upper_half f = record { order = omega arith; within = b.within; before = λ k l. omega (arith, later k middle (omega arith) (omega arith)); behind = b.behind }

  pub lower_half : low ≤ middle → s ≤ from es middle → Between es s low middle
  lower_half l f = record { order = l; within = omega arith; before = b.before; behind = λ k m h. omega (arith, later middle k m h) }

pub closed_in : (es : List ℕ) (s low high : ℕ) → Between es s low high → high ≤ low → low ≡ first_out es s
closed_in es s low high b e = first_is es s low (omega arith) b.before (λ l. b.behind low e l)

-- what is left after a look is at most half, which has a binary digit less: so many looks are enough
pub half_shorter : (m n : ℕ) → 2 * m ≤ n → 0 < n → size m < size n
half_shorter m n h p = go (size n) (size-lt n)
  where
    go : (k : ℕ) → n < 2 ^ k → size m < k
    go zero l = absurd (omega arith)
    go (suc k) l = omega (arith, size-le m k (omega (arith, pow-succ' 2 k)))
