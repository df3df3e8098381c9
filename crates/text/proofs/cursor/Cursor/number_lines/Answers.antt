-- `number_lines` meets its contract. One reader, one loop for edge and node lines: what was read stands in the front, the other lines are read from here on.
use native.Mathlib.Omega.{arith}
use mathlib.Core.Path.{refl}
use Rattle.form.specs.Readers.{numbers_line}
use Rattle.form.proofs.InverseLines.{line_inverse}
use Rattle.text.proofs.Reached.{reached_more, reached_stopped, reached_done}
use Rattle.text.proofs.cursor.Cursor.number_lines.Goals as goal

pub returns-in_default : goal.returns-in_default
returns-in_default g c =
    let a = c.args in
    let l = c.loop-k in
    reached_stopped (numbers_line a.key.now g.row.W) g.row.W a.n a.text.now _ a.out.now l.out l.k l.c.at l.invariant (omega arith) _ c.numbers_line-line.result c.numbers_line-line.ensures c.in_default.not-Read

pub loop-k-preserved : goal.loop-k-preserved
loop-k-preserved g c =
    let a = c.args in
    let l = c.loop-k in
    let one = c.numbers_line-line in
    reached_more (numbers_line a.key.now g.row.W) g.row.W a.n a.text.now _ a.out.now l.out l.k l.c.at l.invariant (λ s xs rest e. ((line_inverse a.key.now g.row.W).back s xs rest e).1.size) c.requires (omega arith) _ one.result one.ensures c.in-Read.is one.auto.out

pub returns : goal.returns
returns g c =
    let a = c.args in
    let l = c.loop-k in
    reached_done (numbers_line a.key.now g.row.W) g.row.W a.n a.text.now _ a.out.now l.out l.k l.c.at l.invariant (omega arith) l.c refl
