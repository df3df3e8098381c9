-- `some_kind_above` meets its contract: a search through the nodes.
use mathlib.Core.Path.{sym}
use mathlib.Core.Bool.{false}
use native.Mathlib.Omega.{arith}
use borrow.Author.Tests.{lt-ltb, le-ltb}
use Rattle.lists.proofs.Search.{any_found, any_more, any_zero}
use Rattle.model.proofs.refusals.some_kind_above.Goals as goal

pub loop-i-init : goal.loop-i-init
loop-i-init c = any_zero _

pub returns-then-nodes-i-gt-GREATEST_KIND : goal.returns-then-nodes-i-gt-GREATEST_KIND
returns-then-nodes-i-gt-GREATEST_KIND c = sym (any_found _ _ _ (omega arith) (lt-ltb _ _ c.if-nodes-i-gt-GREATEST_KIND.true))

pub loop-i-preserved : goal.loop-i-preserved
loop-i-preserved c = any_more _ _ false false c.loop-i.invariant (le-ltb _ _ c.if-nodes-i-gt-GREATEST_KIND.false)
