-- `number` meets its contract. The digits that were read say n, and the rest of the text goes on from there.
use Prim.Native.Nat.{◌≤◌}
use mathlib.Core.Path.{◌≡◌}
use lib.ListN.{drop}
use Rattle.form.specs.Readers.{number, number_from}
use Rattle.text.proofs.cursor.Cursor.number.Given as goal

abbrev pub invariant-loop-i : goal.invariant-loop-i
invariant-loop-i l = (l.n ≤ 65535) × (number l.stop (drop l.at l.text) ≡ number_from l.stop l.n (drop l.i l.text))
