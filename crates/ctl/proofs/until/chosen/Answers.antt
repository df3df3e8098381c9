-- `chosen` meets its contract: and for "all", otherwise or.
use mathlib.Core.Path.{sym, ap, ◌∙◌}
use mathlib.Core.Bool.{Bool}
use Rattle.values.specs.Answers.{verdict}
use Rattle.values.specs.Values.{choose}
use Rattle.ctl.proofs.until.chosen.Goals as goal

pub returns-then-all : goal.returns-then-all
returns-then-all c = c.and.ensures ∙ ap (λ (b : Bool). verdict (choose b c.args.a.0 c.args.b.0)) (sym c.if-all.true)

pub returns-else-all : goal.returns-else-all
returns-else-all c = c.or.ensures ∙ ap (λ (b : Bool). verdict (choose b c.args.a.0 c.args.b.0)) (sym c.if-all.false)
