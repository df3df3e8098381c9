-- `labelled` meets its contract. The two counts and then the rows, each by the answer before it.
use mathlib.Core.Path.{sym, ◌∙◌}
use lib.ListN.{drop}
use Rattle.values.specs.Limits.{most_states, most_atoms}
use Rattle.form.specs.Form.{key_states, key_atoms}
use Rattle.text.specs.Inside.{first, labelled_text, labelled_in}
use Rattle.text.proofs.Answers.{stopped, went, counted}
use Rattle.text.proofs.cursor.Cursor.labelled.Goals as goal

pub returns-in_default : goal.returns-in_default
unfolding labelled_text
returns-in_default c =
    let a = c.args in
    let x = c.count_line-first in
    stopped first (labelled_in a.labels.now a.initial.now) _ a.text.now x.result _ x.ensures c.in_default.not-Read

pub returns-in_default-second : goal.returns-in_default-second
unfolding labelled_text
returns-in_default-second c =
    let a = c.args in
    let s = a.text.now in
    let x = c.count_line-first in
    let y = c.count_line-second in
    stopped first (labelled_in a.labels.now a.initial.now) _ s y.result _ y.ensures c.in_default-second.not-Read
    ∙ sym (went first _ s x.result _ x.ensures c.in-Read.is)

pub rows-requires : goal.rows-requires
rows-requires c =
    let a = c.args in
    let s = a.text.now in
    let x = c.count_line-first in
    let y = c.count_line-second in
    let S = counted key_states 1 most_states 1 s (drop a.self.at s) x.result x.ensures c.in-Read.is in
    let A = counted key_atoms 0 most_atoms 2 s (drop c.in-Read.c.at s) y.result y.ensures c.in-Read-second.is in
    (S.most, A.most)

pub returns : goal.returns
unfolding labelled_text
returns c =
    let a = c.args in
    let s = a.text.now in
    let x = c.count_line-first in
    let y = c.count_line-second in
    c.rows.ensures ∙ sym (went first _ s x.result _ x.ensures c.in-Read.is ∙ went first _ s y.result _ y.ensures c.in-Read-second.is)
