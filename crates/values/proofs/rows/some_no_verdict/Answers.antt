-- `some_no_verdict` meets its contract: a search for the first byte of which no verdict is made.
use mathlib.Core.Path.{sym}
use mathlib.Core.Bool.{false}
use native.Mathlib.Omega.{arith}
use borrow.Author.Tests.{lt-ltb, le-ltb}
use Rattle.values.specs.Rows.{some_above}
use Rattle.lists.proofs.Search.{any_all, any_found, any_more, any_zero}
use Rattle.values.proofs.rows.some_no_verdict.Goals as goal

pub loop-number-init : goal.loop-number-init
loop-number-init c = any_zero _

pub returns-in_default : goal.returns-in_default
unfolding some_above
returns-in_default c = sym (any_found _ _ _ (omega arith) (lt-ltb _ _ c.in_default.ensures))

pub loop-number-preserved : goal.loop-number-preserved
loop-number-preserved c = any_more _ _ false false c.loop-number.invariant (le-ltb _ _ c.in-Some.ensures.1)

pub returns : goal.returns
unfolding some_above
returns c = sym (any_all _ _ _ _ c.loop-number.invariant (omega arith) (omega arith))
