-- `delay` meets its contract: the difference of the counters, taken as signed numbers, and a turn more or less where it is out of range.
use mathlib.Core.Path.{◌≡◌, ◌∙◌, ap}
use mathlib.Core.Bool.{true, false}
use Prim.Native.Nat.{ℕ, ◌<◌}
use native.Mathlib.Omega.{arith}
use lib.IntN.{ℤ, pos, ◌+ℤ◌, ◌-ℤ◌}
use lib.Signed.{mag, lt_z}
use mir.Syntax.{w64}
use mir.Val.{SFits, to_z, of_z}
use Rattle.readings.specs.Delays.{turn, least_delay, greatest_delay, mod_turn}
use Rattle.readings.proofs.Bits.{seen_narrowed, taken, apart_seen}
use Rattle.readings.proofs.Turns.{turn_more, turn_less, apart_small, grown_small, shrunk_small, between_small, delay_of}
use borrow.Author.Rules.{rules}
use Rattle.readings.proofs.delays.delay.Goals as goal

-- the difference as the code has it
abbrev apart : ℕ → ℕ → ℤ
apart l e = to_z w64 (of_z w64 (to_z w64 l -ℤ to_z w64 e))

module _ (l e : ℕ) (hl : l < turn) (he : e < turn) where
  apart_fits : SFits w64 (to_z w64 l -ℤ to_z w64 e)
  apart_fits = rw (taken l e hl he) (record { sfits = omega (arith, apart_small l e hl he) })

  grown : lt_z (apart l e) least_delay ≡ true → mag (apart l e +ℤ pos turn) < 2147483648
  grown t = rw (apart_seen l e hl he) (grown_small (pos l -ℤ pos e) (apart_small l e hl he) (rw (apart_seen l e hl he) at t))

  shrunk : lt_z greatest_delay (apart l e) ≡ true → mag (apart l e -ℤ pos turn) < 2147483648
  shrunk t = rw (apart_seen l e hl he) (shrunk_small (pos l -ℤ pos e) (apart_small l e hl he) (rw (apart_seen l e hl he) at t))

  kept : lt_z (apart l e) least_delay ≡ false → lt_z greatest_delay (apart l e) ≡ false → mag (apart l e) < 2147483648
  kept t u = between_small (apart l e) t u

  same : mod_turn (apart l e) ≡ mod_turn (pos l -ℤ pos e)
  same = ap mod_turn (apart_seen l e hl he)

pub returns-then-apart-lt-LEAST_DELAY : goal.returns-then-apart-lt-LEAST_DELAY
returns-then-apart-lt-LEAST_DELAY c =
    let l = c.args.later in
    let e = c.args.earlier in
    let d = apart l e +ℤ pos turn in
    let small = grown l e (search rules) (search rules) c.if-apart-lt-LEAST_DELAY.true in
    rw (seen_narrowed d small) (delay_of l e d small (turn_more (apart l e) ∙ same l e (search rules) (search rules)))

pub returns-then-apart-gt-GREATEST_DELAY : goal.returns-then-apart-gt-GREATEST_DELAY
returns-then-apart-gt-GREATEST_DELAY c =
    let l = c.args.later in
    let e = c.args.earlier in
    let d = apart l e -ℤ pos turn in
    let small = shrunk l e (search rules) (search rules) c.if-apart-gt-GREATEST_DELAY.true in
    rw (seen_narrowed d small) (delay_of l e d small (turn_less (apart l e) ∙ same l e (search rules) (search rules)))
