-- `part_at` meets its contract.
use mathlib.Core.Path.{sym, ◌∙◌}
use Prim.Native.Nat.{ℕ, ◌-◌, ◌<◌}
use native.Mathlib.Omega.{arith}
use Rattle.formula.specs.InsidePrinting.{Inside}
use Rattle.formula.proofs.Sorts.{two_left, signs_few}
use Rattle.formula.proofs.PartLaws.{found_short, unread_none, first_none, before_none, PairCase, pair_right, pair_apart, pair_none, left_inside, sides_short, pair_of}
use Rattle.formula.proofs.parts.+part_at.Goals as goal
use Rattle.formula.proofs.parts.+part_at.Goals.{Else-taken-eq1}

-- the branch of a pair: what is known of the node, and what ends at the node before it
pair-case : (t : ℕ) (c : goal.Else-taken-eq1 t) →
    PairCase c.args.nodes.now c.args.i c.in_ok-node.node c.in_ok-last.last.first c.in_ok-last.last.bytes
pair-case t c =
    record {
      inside = c.requires;
      two_taken = two_left _ c.operands-taken.ensures c.if-taken-eq0.false c.if-taken-eq1.false;
      here = c.in_ok-node.ensures;
      later = omega (arith, c.if-i-eq0.false);
      found = c.in_ok-last.ensures;
    }

pub returns-in_err-node : goal.returns-in_err-node
returns-in_err-node t c = rw c.from_residual.ensures (unread_none _ _ c.in_err-node.ensures)

pub returns-then-i-eq0 : goal.returns-then-i-eq0
returns-then-i-eq0 t c = first_none _ _ _ (λ e. c.if-taken-eq0.false (c.operands-taken.ensures ∙ e)) c.if-i-eq0.true c.in_ok-node.ensures

pub returns-in_err-last : goal.returns-in_err-last
returns-in_err-last t c = rw c.from_residual-in_err-last.ensures (before_none _ _ _ (λ e. c.if-taken-eq0.false (c.operands-taken.ensures ∙ e)) c.in_err-last.ensures c.in_ok-node.ensures)

pub prefix_part-requires : goal.prefix_part-requires
prefix_part-requires t c =
    let inside : Inside c.args.nodes.now (c.args.i - 1) = record { there = omega (arith, c.requires.there); few = c.requires.few } in
    record {
      takes_one = sym c.operands-taken.ensures ∙ c.if-taken-eq1.true;
      later = omega (arith, c.if-i-eq0.false);
      few = found_short inside (c.in_ok-last.ensures);
    }

pub returns-then-node-i : goal.returns-then-node-i
returns-then-node-i t c = pair_right (pair-case t (goal.at.returns-then-node-i t c).Else-taken-eq1) c.if-node-i.true

pub returns-then-node-last : goal.returns-then-node-last
returns-then-node-last t c = pair_apart (pair-case t (goal.at.returns-then-node-last t c).Else-taken-eq1) c.if-node-last.true

pub part_at-requires-2 : goal.part_at-requires-2
part_at-requires-2 t c =
    let left = left_inside (pair-case t (goal.at.part_at-requires-2 t c).Else-taken-eq1) c.if-node-last.false in
    let less : c.in_ok-node.node.left < t = omega (arith, c.decreases, left.0) in
    (less, left.1)

pub returns-in_err-left : goal.returns-in_err-left
returns-in_err-left t c = rw c.from_residual-in_err-left.ensures (pair_none (pair-case t (goal.at.returns-in_err-left t c).Else-taken-eq1) c.in_err-left.ensures)

pub overflow_add-result : goal.overflow_add-result
overflow_add-result t c =
    record { fits = omega (arith, sides_short (pair-case t (goal.at.overflow_add-result t c).Else-taken-eq1) c.if-node-last.false c.in_ok-left.ensures) }

pub overflow_add-result-2 : goal.overflow_add-result-2
overflow_add-result-2 t c =
    record { fits = omega (arith, sides_short (pair-case t (goal.at.overflow_add-result-2 t c).Else-taken-eq1) c.if-node-last.false c.in_ok-left.ensures, c.signs_size.ensures, signs_few c.in_ok-node.node.kind) }

pub returns : goal.returns
returns t c = pair_of (pair-case t (goal.at.returns t c).Else-taken-eq1) c.if-node-i.false c.if-node-last.false c.in_ok-left.ensures c.signs_size.ensures
