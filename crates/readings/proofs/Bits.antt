-- Signed numbers come out of their bits as they went in, and unsigned ones as themselves.
use mathlib.Core.Path.{◌≡◌, ap, ◌∙◌}
use Prim.Native.Nat.{ℕ, ◌<◌}
use native.Mathlib.Omega.{arith}
use lib.IntN.{ℤ, pos, ◌-ℤ◌}
use lib.Signed.{mag}
use mir.Syntax.{w32, w64}
use mir.Val.{SFits, to_z, of_z}
use mir.Facts.{to_z-of_z, to_z_pos}
use Rattle.readings.specs.Delays.{turn}
use Rattle.readings.proofs.Turns.{apart_small}

pub seen : (x : ℤ) → mag x < 2147483648 → to_z w32 (of_z w32 x) ≡ x
seen x h = to_z-of_z {w = w32} {z = x} (record { sfits = h })

pub seen_wide : (x : ℤ) → mag x < 9223372036854775808 → to_z w64 (of_z w64 x) ≡ x
seen_wide x h = to_z-of_z {w = w64} {z = x} (record { sfits = h })

-- a small number that was widened and narrowed
pub seen_narrowed : (x : ℤ) → mag x < 2147483648 → to_z w32 (of_z w32 (to_z w64 (of_z w64 x))) ≡ x
seen_narrowed x h = ap (λ (z : ℤ). to_z w32 (of_z w32 z)) (seen_wide x (omega arith)) ∙ seen x h

pub wide_fits : (x : ℤ) → mag x < 2147483648 → SFits w64 x
wide_fits x h = record { sfits = omega arith }

pub narrow_fits : (x : ℤ) → mag x < 2147483648 → SFits w32 (to_z w64 (of_z w64 x))
narrow_fits x h = rw (seen_wide x (omega arith)) (record { sfits = h })

-- two counters taken as signed numbers, and their difference
module _ (l e : ℕ) (hl : l < turn) (he : e < turn) where
  pub taken : to_z w64 l -ℤ to_z w64 e ≡ pos l -ℤ pos e
  taken = rw (to_z_pos w64 {n = l} (omega arith), to_z_pos w64 {n = e} (omega arith))

  pub apart_seen : to_z w64 (of_z w64 (to_z w64 l -ℤ to_z w64 e)) ≡ pos l -ℤ pos e
  apart_seen = ap (λ (z : ℤ). to_z w64 (of_z w64 z)) taken ∙ seen_wide (pos l -ℤ pos e) (omega (arith, apart_small l e hl he))
