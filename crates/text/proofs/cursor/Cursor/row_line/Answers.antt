-- `row_line` meets its contract. The key, the symbols and the line feed, each by the answer before it; then the symbols are laid into the table.
use mathlib.Core.Path.{ap, sym, ◌∙◌}
use mathlib.Core.List.{[], map}
use lib.ListN.{take, drop}
use Rattle.form.specs.Readers.{place_of, row_line}
use Rattle.text.specs.Inside.{told, nothing}
use Rattle.form.proofs.Readings.{row_fits}
use Rattle.text.proofs.Answers.{stopped, went, unread, line_read, row_told}
use Rattle.text.proofs.cursor.Cursor.row_line.Goals as goal

pub returns-in_default : goal.returns-in_default
unfolding row_line
returns-in_default c =
    let a = c.args in
    let s = a.text.now in
    let e = c.exactly-past in
    unread (λ x y. []) s e.result _ a.to a.out.now (stopped nothing (λ x y. []) _ s e.result _ e.ensures c.in_default.not-Read) c.in_default.not-Read

pub returns-in_default-row : goal.returns-in_default-row
unfolding row_line
returns-in_default-row c =
    let a = c.args in
    let s = a.text.now in
    let e = c.exactly-past in
    let y = c.symbols-row in
    let vs = map (place_of a.signs.now) (take a.n (drop c.in-Read.c.at s)) in
    let row = row_told a.signs.now a.n s (drop c.in-Read.c.at s) y.result y.ensures in
    unread (λ x y. []) s y.result _ a.to a.out.now
    (stopped (λ x y. vs) (λ x y. []) _ s y.result _ row c.in_default-row.not-Read ∙ sym (went nothing _ s e.result _ e.ensures c.in-Read.is)) c.in_default-row.not-Read

pub returns-in_default-line : goal.returns-in_default-line
unfolding row_line
returns-in_default-line c =
    let a = c.args in
    let s = a.text.now in
    let e = c.exactly-past in
    let y = c.symbols-row in
    let vs = map (place_of a.signs.now) (take a.n (drop c.in-Read.c.at s)) in
    let row = row_told a.signs.now a.n s (drop c.in-Read.c.at s) y.result y.ensures in
    let f = c.exactly-line in
    unread (λ x y. []) s f.result _ a.to a.out.now
    (stopped nothing (λ x y. []) _ s f.result _ f.ensures c.in_default-line.not-Read
    ∙ sym (went nothing _ s e.result _ e.ensures c.in-Read.is ∙ went (λ x y. vs) _ s y.result _ row c.in-Read-row.is)) c.in_default-line.not-Read

pub lay_symbols-requires : goal.lay_symbols-requires
lay_symbols-requires c =
    let a = c.args in
    let s = a.text.now in
    let e = c.exactly-past in
    let y = c.symbols-row in
    let vs = map (place_of a.signs.now) (take a.n (drop c.in-Read.c.at s)) in
    let row = row_told a.signs.now a.n s (drop c.in-Read.c.at s) y.result y.ensures in
    let f = c.exactly-line in
    (c.requires.0, row_fits a.signs.now a.n c.in-Read.c.at s vs _ _ _ _ tt (sym row ∙ ap (told (λ x y. vs) s) c.in-Read-row.is) (sym f.ensures ∙ ap (told nothing s) c.in-Read-line.is), c.requires.1)

pub returns : goal.returns
unfolding row_line
returns c =
    let a = c.args in
    let s = a.text.now in
    let e = c.exactly-past in
    let y = c.symbols-row in
    let vs = map (place_of a.signs.now) (take a.n (drop c.in-Read.c.at s)) in
    let row = row_told a.signs.now a.n s (drop c.in-Read.c.at s) y.result y.ensures in
    let f = c.exactly-line in
    line_read s _ a.to a.out.now _ vs c.in-Read-line.next
    (went nothing _ s e.result _ e.ensures c.in-Read.is ∙ went (λ x y. vs) _ s y.result _ row c.in-Read-row.is
    ∙ went nothing _ s f.result _ f.ensures c.in-Read-line.is) c.lay_symbols.ensures
