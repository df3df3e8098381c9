-- `some_stuck` meets its contract: a search through the states.
use mathlib.Core.Path.{sym}
use mathlib.Core.Bool.{false}
use native.Mathlib.Omega.{arith}
use borrow.Author.Tests.{eq-eqb, ne_eqb}
use Rattle.lists.proofs.Search.{any_found, any_more, any_zero}
use Rattle.kripke.proofs.graph.some_stuck.Goals as goal

pub loop-s-init : goal.loop-s-init
loop-s-init c = any_zero _

pub returns-then-begins-s : goal.returns-then-begins-s
returns-then-begins-s c = sym (any_found _ _ _ (omega arith) (eq-eqb _ _ c.if-begins-s.true))

pub loop-s-preserved : goal.loop-s-preserved
loop-s-preserved c = any_more _ _ false false c.loop-s.invariant (ne_eqb _ _ c.if-begins-s.false)
