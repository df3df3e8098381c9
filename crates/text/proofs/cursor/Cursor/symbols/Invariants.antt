-- `symbols` meets its contract. The symbols that are left to read and the text from here on read as the whole would.
use Prim.Native.Nat.{◌-◌}
use mathlib.Core.Path.{◌≡◌}
use lib.ListN.{drop}
use Rattle.form.specs.Readers.{symbols}
use Rattle.text.specs.Inside.{bare}
use Rattle.text.proofs.cursor.Cursor.symbols.Given as goal

abbrev pub invariant-loop-j : goal.invariant-loop-j
invariant-loop-j l = bare (symbols l.signs l.n (drop l.initial.i l.text)) ≡ bare (symbols l.signs (l.n - l._j) (drop l.i l.text))
