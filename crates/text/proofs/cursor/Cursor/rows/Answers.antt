-- `rows` meets its contract. The initial row, then the label lines, each by the answer before it.
use mathlib.Core.Path.{sym, ◌∙◌}
use Prim.Native.Nat.{◌*◌}
use lib.ListN.{take, drop}
use Rattle.form.specs.Form.{key_init, bits}
use Rattle.text.specs.Inside.{rows_text, labelled_in}
use Rattle.text.proofs.Answers.{stopped, went}
use Rattle.text.proofs.Reached.{row_front}
use Rattle.text.proofs.cursor.Cursor.rows.Goals as goal

pub returns-in_default : goal.returns-in_default
unfolding rows_text
returns-in_default c =
    let a = c.args in
    let s = a.text.now in
    let i = c.row_line-row in
    let initial = i.new.out in
    let row = row_front key_init bits a.states s (drop a.self.at s) a.initial.now initial i.result i.ensures in
    stopped (λ x y. take a.states initial) (labelled_in a.labels.now initial) _ s i.result _ row c.in_default.not-Read

pub returns-in_default-rest : goal.returns-in_default-rest
unfolding rows_text
returns-in_default-rest c =
    let a = c.args in
    let s = a.text.now in
    let i = c.row_line-row in
    let initial = i.new.out in
    let row = row_front key_init bits a.states s (drop a.self.at s) a.initial.now initial i.result i.ensures in
    let l = c.label_lines-rest in
    let labels = l.new.out in
    let past = went (λ x y. take a.states initial) _ s i.result _ row c.in-Read.is in
    stopped (λ x y. take (a.atoms * a.states) labels) (labelled_in labels initial) _ s l.result _ l.ensures.says c.in_default-rest.not-Read ∙ sym past

pub returns : goal.returns
unfolding rows_text
returns c =
    let a = c.args in
    let s = a.text.now in
    let i = c.row_line-row in
    let initial = i.new.out in
    let row = row_front key_init bits a.states s (drop a.self.at s) a.initial.now initial i.result i.ensures in
    let l = c.label_lines-rest in
    let labels = l.new.out in
    let past = went (λ x y. take a.states initial) _ s i.result _ row c.in-Read.is in
    sym (past ∙ went (λ x y. take (a.atoms * a.states) labels) _ s l.result _ l.ensures.says c.in-Read-rest.is)
