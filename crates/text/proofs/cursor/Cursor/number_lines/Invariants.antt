-- `number_lines` meets its contract. One reader, one loop for edge and node lines: what was read stands in the front, the other lines are read from here on.
use lib.ListN.{drop}
use Rattle.form.specs.Readers.{numbers_line}
use Rattle.text.proofs.Reached.{Reached}
use Rattle.text.proofs.cursor.Cursor.number_lines.Given as goal

abbrev pub invariant-loop-k : goal.invariant-loop-k
invariant-loop-k g l = Reached (numbers_line l.key g.row.W) g.row.W l.n l.text (drop l.initial.c.at l.text) l.initial.out l.out l.k l.c.at
