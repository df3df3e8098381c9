-- `entries_size` meets its contract: the bytes are counted entry by entry.
use native.Mathlib.Omega.{arith}
use Rattle.lists.specs.Entries.{at}
use Rattle.values.proofs.Decimals.{decimal_short}
use Rattle.answer.proofs.Entries.{counted_more, counted_all}
use Rattle.answer.proofs.put.entries_size.Goals as goal

pub overflow_add-size : goal.overflow_add-size
overflow_add-size c = omega (arith, c.loop-state.invariant.few, decimal_short (at c.args.path.now c.loop-state.state-index), c.decimal_size.ensures, c.requires)

pub overflow_add-size-in-loop-state : goal.overflow_add-size-in-loop-state
overflow_add-size-in-loop-state c = omega (arith, c.loop-state.invariant.few, decimal_short (at c.args.path.now c.loop-state.state-index), c.decimal_size.ensures, c.requires)

pub loop-state-preserved : goal.loop-state-preserved
loop-state-preserved c = counted_more _ _ _ _ (omega arith) c.loop-state.invariant c.decimal_size.ensures

pub returns : goal.returns
returns c = counted_all _ _ _ (omega arith) c.loop-state.invariant
