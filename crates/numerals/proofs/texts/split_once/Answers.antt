-- `split_once` meets its contract, with such a byte and without.
use mathlib.Core.Path.{◌∙◌}
use native.Mathlib.Omega.{arith}
use Rattle.numerals.proofs.Cuts.{front_is, rest_is, none_there, one_there, place_within}
use Rattle.numerals.proofs.texts.split_once.Goals as goal

pub returns-then-at-text : goal.returns-then-at-text
returns-then-at-text c = none_there c.args.byte c.args.text.now _ c.count_before-at.ensures c.if-at-text.true

pub overflow_add-at : goal.overflow_add-at
overflow_add-at c =
    record { fits = omega (arith, place_within c.args.byte c.args.text.now _ c.count_before-at.ensures c.if-at-text.false) }

pub returns : goal.returns
returns c =
    let b = c.args.byte in
    let xs = c.args.text.now in
    let p = c.count_before-at in
    (one_there b xs p.result p.ensures c.if-at-text.false, c.front.ensures ∙ front_is b xs p.result p.ensures, c.rest.ensures ∙ rest_is b xs p.result p.ensures)
