-- `count_line` meets its contract. The key, the number, and then its range: each step by the answer before it.
use mathlib.Core.Path.{◌≡◌, sym, ◌∙◌}
use lib.ListN.{drop}
use mathlib.Core.Bool.{true, false, ◌&&◌}
use lib.Dec.{leb}
use Rattle.std.proofs.Common.{rules}
use Rattle.values.specs.Refusal.{number_of}
use Rattle.form.specs.Readers.{within, count_line}
use Rattle.text.specs.Inside.{nothing, first}
use Rattle.text.proofs.Answers.{stopped, went}
use Rattle.text.proofs.cursor.Cursor.count_line.Goals as goal
use Rattle.text.proofs.cursor.Cursor.count_line.Goals.{In-Read-counted}

pub returns-in_default : goal.returns-in_default
unfolding count_line
returns-in_default c =
    let e = c.exactly-past in
    stopped nothing first _ c.args.text.now e.result _ e.ensures c.in_default.not-Read

pub returns-in_default-counted : goal.returns-in_default-counted
unfolding count_line
returns-in_default-counted c =
    let s = c.args.text.now in
    let e = c.exactly-past in
    let n = c.number-counted in
    stopped first first _ s n.result _ n.ensures c.in_default-counted.not-Read ∙ sym (went nothing _ s e.result _ e.ensures c.in-Read.is)

-- once the line was read, its form is judged, and its range is left
ranged : (c : In-Read-counted)
    → let a = c.args in
    count_line a.key.now a.least a.most (number_of a.refusal) (drop a.self.at a.text.now) ≡ within a.least a.most (number_of a.refusal) c.in-Read-counted.count (drop c.in-Read-counted.field-2.at a.text.now)
unfolding count_line
ranged c =
    let s = c.args.text.now in
    let e = c.exactly-past in
    let n = c.number-counted in
    went nothing _ s e.result _ e.ensures c.in-Read.is ∙ went first _ s n.result _ n.ensures c.in-Read-counted.is

pub returns-then-not-contains : goal.returns-then-not-contains
unfolding within
returns-then-not-contains c =
    let n = c.in-Read-counted.count in
    let v = c.if-not-contains.ensures.cases in
    let p : (leb c.args.least n && leb n c.args.most) ≡ false = search rules in
    sym (ranged (goal.at.returns-then-not-contains c).In-Read-counted ∙ simp p)

pub returns : goal.returns
unfolding within
returns c =
    let n = c.in-Read-counted.count in
    let v = c.if-not-contains.ensures.cases in
    let p : (leb c.args.least n && leb n c.args.most) ≡ true = search rules in
    sym (ranged (goal.at.returns c).In-Read-counted ∙ simp p)
