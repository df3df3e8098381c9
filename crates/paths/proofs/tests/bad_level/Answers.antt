-- `bad_level` meets its contract: the tests, one after the other.
use borrow.Author.Tests.{eq-eqb, ne_eqb}
use Rattle.paths.specs.Refusals.{bad_level}
use Rattle.paths.proofs.tests.bad_level.Goals as goal

pub returns-then-level-eq1 : goal.returns-then-level-eq1
unfolding bad_level
returns-then-level-eq1 c = rw (eq-eqb _ _ c.if-level-eq1.true)

pub returns : goal.returns
unfolding bad_level
returns c = rw (ne_eqb _ _ c.if-level-eq1.false)
