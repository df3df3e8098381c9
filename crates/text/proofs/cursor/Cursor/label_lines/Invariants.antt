-- `label_lines` meets its contract. What was read stands in the front, the other lines are read from here on.
use lib.ListN.{drop}
use Rattle.values.specs.Signs.{letters}
use Rattle.form.specs.Readers.{row_line}
use Rattle.form.specs.Form.{key_label}
use Rattle.text.proofs.Reached.{Reached}
use Rattle.text.proofs.cursor.Cursor.label_lines.Given as goal

abbrev pub invariant-loop-k : goal.invariant-loop-k
invariant-loop-k l = Reached (row_line key_label letters l.atoms) l.atoms l.states l.text (drop l.initial.c.at l.text) l.initial.out l.out l.k l.c.at
