-- `count_before` meets its contract: the place of the first such byte.
use mathlib.Core.Path.{◌∙◌}
use lib.Dec.{eqb}
use Rattle.std.proofs.Common.{rules, tests}
use Rattle.std.proofs.lemmas.Iterator.{YieldsList-from_slice}
use Rattle.std.proofs.lemmas.Iterator.Search.{position_from_yields_List}
use Rattle.numerals.proofs.Cuts.{counted_before}
use Rattle.numerals.proofs.texts.count_before.Goals as goal

pub returns : goal.returns
returns c =
    let xs = c.args.text.now in
    let b = c.args.byte in
    c.unwrap_or.ensures
    ∙ counted_before b xs c.position.result
    (position_from_yields_List (λ x. eqb x b) _ _ c.position.result c.position.ensures.ran (YieldsList-from_slice xs cc) (λ x t q k. search (rules, tests)))
