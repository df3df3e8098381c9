-- `numbers` meets its contract. The numbers that were read stand in the front, and the others are read from here on.
use lib.ListN.{length, drop}
use Rattle.text.proofs.Numbers.{Front}
use Rattle.text.proofs.cursor.Cursor.numbers.Given as goal

abbrev pub invariant-loop-j : goal.invariant-loop-j
invariant-loop-j l = Front (length l.initial.held) l.text (drop l.initial.c.at l.text) l.initial.held l.held l.j l.c.at
