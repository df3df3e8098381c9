-- `store_row` meets its contract: a row filled from the front.
use mathlib.Core.Path.{refl, sym, ap, ◌∙◌}
use Prim.Native.Nat.{ℕ, ◌≤◌}
use mathlib.Core.List.{List, ◌++◌}
use native.Mathlib.Omega.{arith}
use lib.ListN.{length, drop}
use borrow.Author.Tests.{le-leb, lt-leb}
use Rattle.values.specs.Rows.{stored_row}
use Rattle.lists.proofs.Rows.{filled_end, filled_more, filled_none, tab_own}
use Rattle.values.proofs.rows.store_row.Goals as goal

pub returns-then-space-n : goal.returns-then-space-n
unfolding stored_row
returns-then-space-n c = record { answer = sym (lt-leb _ _ c.if-space-n.true); space = rw (lt-leb _ _ c.if-space-n.true) }

pub loop-i-init : goal.loop-i-init
loop-i-init c = filled_none _ _

pub loop-i-preserved : goal.loop-i-preserved
loop-i-preserved c = filled_more _ _ _ _ _ c.loop-i.invariant (omega arith) refl

pub returns : goal.returns
unfolding stored_row
returns c =
    let x = c.args in
    let room : length x.values.now ≤ length x.space.now = omega arith in
    record { answer = sym (le-leb _ _ room); space = filled_end _ _ _ _ _ c.loop-i.invariant (omega arith) (omega arith) ∙ ap (λ (r : List ℕ). r ++ drop (length x.values.now) x.space.now) (tab_own x.values.now) ∙ rw (le-leb _ _ room) }
