-- `numbers_line` meets its contract. The key and the numbers, each by the answer before it; then the numbers are laid into the table.
use native.Mathlib.Omega.{arith}
use mathlib.Core.Path.{ap, sym, ◌∙◌}
use mathlib.Core.List.{[]}
use Prim.Native.Nat.{ℕ}
use lib.ListN.{drop, length-replicate}
use Rattle.form.specs.Readers.{numbers, numbers_line}
use Rattle.text.specs.Inside.{told, nothing}
use Rattle.text.proofs.Places.{copied}
use Rattle.text.proofs.Answers.{stopped, went, unread, line_read}
use Rattle.text.proofs.cursor.Cursor.numbers_line.Goals as goal

pub returns-in_default : goal.returns-in_default
unfolding numbers_line
returns-in_default g c =
    let a = c.args in
    let s = a.text.now in
    let e = c.exactly-past in
    unread (λ x y. []) s e.result _ a.to a.out.now (stopped nothing (λ x y. []) _ s e.result _ e.ensures c.in_default.not-Read) c.in_default.not-Read

pub returns-in_default-line : goal.returns-in_default-line
unfolding numbers_line
returns-in_default-line g c =
    let a = c.args in
    let s = a.text.now in
    let e = c.exactly-past in
    let n = c.numbers-line in
    let says = n.ensures ∙ ap (λ (w : ℕ). numbers w (drop c.in-Read.c.at s)) (length-replicate {A = ℕ} g.row.W 0) in
    let vs = n.new.held in
    unread (λ x y. vs) s n.result _ a.to a.out.now (says ∙ sym (went nothing _ s e.result _ e.ensures c.in-Read.is)) c.in_default-line.not-Read

pub returns : goal.returns
unfolding numbers_line
returns g c =
    let a = c.args in
    let s = a.text.now in
    let e = c.exactly-past in
    let n = c.numbers-line in
    let says = n.ensures ∙ ap (λ (w : ℕ). numbers w (drop c.in-Read.c.at s)) (length-replicate {A = ℕ} g.row.W 0) in
    let vs = n.new.held in
    line_read s _ a.to a.out.now _ vs c.in-Read-line.next
    (went nothing _ s e.result _ e.ensures c.in-Read.is ∙ sym says ∙ ap (told (λ x y. vs) s) c.in-Read-line.is)
    (copied a.to g.row.W n.new.held a.out.now _ (omega (arith, n.auto.held, length-replicate {A = ℕ} g.row.W 0)) c.copy_from_slice.ensures.after)
