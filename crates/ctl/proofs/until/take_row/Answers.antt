-- `take_row` meets its contract: the front is the source's already, or it is filled from the front.
use mathlib.Core.Path.{refl, sym, ◌∙◌}
use mathlib.Core.Bool.{true≢false}
use native.Mathlib.Omega.{arith}
use Rattle.std.specs.Cmp.Lexicographic.{same_text}
use Rattle.lists.proofs.Rows.{filled_end, filled_more, filled_none}
use Rattle.ctl.proofs.Copies.{copied_already}
use Rattle.ctl.proofs.until.take_row.Goals as goal

pub returns-then-eq : goal.returns-then-eq
returns-then-eq c = (copied_already _ _ _ (omega (arith, c.args.graph.now.ready.accepted.few)) (same_text _ _ (sym c.if-eq.true ∙ c.eq.ensures)), λ q. refl)

pub loop-s-init : goal.loop-s-init
loop-s-init c = filled_none _ _

pub loop-s-preserved : goal.loop-s-preserved
loop-s-preserved c = filled_more _ _ _ _ _ c.loop-s.invariant (omega (arith, c.args.graph.now.ready.accepted.few)) refl

pub returns : goal.returns
returns c = (filled_end _ _ _ _ _ c.loop-s.invariant (omega arith) (omega arith), λ q. absurd (true≢false q))
