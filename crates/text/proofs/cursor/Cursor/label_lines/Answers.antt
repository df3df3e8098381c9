-- `label_lines` meets its contract. What was read stands in the front, the other lines are read from here on.
use native.Mathlib.Omega.{arith}
use mathlib.Core.Path.{refl}
use Rattle.values.specs.Signs.{letters}
use Rattle.form.specs.Readers.{row_line}
use Rattle.form.specs.Form.{key_label}
use Rattle.form.proofs.Readings.{row_size_lem}
use Rattle.text.proofs.Reached.{reached_more, reached_stopped, reached_done}
use Rattle.text.proofs.cursor.Cursor.label_lines.Goals as goal

pub returns-in_default : goal.returns-in_default
returns-in_default c =
    let a = c.args in
    let l = c.loop-k in
    reached_stopped (row_line key_label letters a.atoms) a.atoms a.states a.text.now _ a.out.now l.out l.k l.c.at l.invariant (omega arith) _ c.row_line-line.result c.row_line-line.ensures c.in_default.not-Read

pub loop-k-preserved : goal.loop-k-preserved
loop-k-preserved c =
    let a = c.args in
    let l = c.loop-k in
    let one = c.row_line-line in
    reached_more (row_line key_label letters a.atoms) a.atoms a.states a.text.now _ a.out.now l.out l.k l.c.at l.invariant (row_size_lem key_label letters a.atoms) c.requires (omega arith) _ one.result one.ensures c.in-Read.is one.auto.out

pub returns : goal.returns
returns c =
    let a = c.args in
    let l = c.loop-k in
    reached_done (row_line key_label letters a.atoms) a.atoms a.states a.text.now _ a.out.now l.out l.k l.c.at l.invariant (omega arith) l.c refl
