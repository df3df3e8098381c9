-- `digits_from` meets its contract: the digits passed and the rest say what the whole text does, and there is room for the rest.
use mathlib.Core.Path.{◌≡◌}
use Prim.Native.Nat.{◌+◌, ◌-◌, ◌*◌, ◌^◌, ◌≤◌}
use lib.ListN.{length, drop}
use Rattle.numerals.specs.Wholes.{most_digits, digits_from}
use Rattle.numerals.proofs.wholes.digits_from.Given as goal

abbrev pub invariant-loop-byte : goal.invariant-loop-byte
invariant-loop-byte l =
    ((l.n + 1) * 10 ^ (length l.text - l.byte-index) ≤ 10 ^ most_digits) × (digits_from l.first l.text ≡ digits_from l.n (drop l.byte-index l.text))
