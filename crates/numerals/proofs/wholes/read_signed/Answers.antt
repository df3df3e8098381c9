-- `read_signed` meets its contract, with a sign and without.
use mathlib.Core.Path.{sym, ◌∙◌}
use Rattle.std.proofs.Common.{rules}
use Rattle.numerals.specs.Wholes.{minus, signed}
use Rattle.numerals.proofs.Cuts.{begins_is}
use Rattle.numerals.proofs.wholes.read_signed.Goals as goal

pub returns-in-Some : goal.returns-in-Some
unfolding signed
returns-in-Some c =
    let s = sym (begins_is minus c.args.text.now) ∙ c.in-Some.ensures.cases.0 in
    rw s (search rules)

pub returns : goal.returns
unfolding signed
returns c =
    let s = sym (begins_is minus c.args.text.now) ∙ c.in_default.ensures.cases in
    rw s (search rules)
