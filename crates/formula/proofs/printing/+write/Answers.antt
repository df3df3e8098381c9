-- `write` meets its contract.
use mathlib.Core.Path.{sym, ◌∙◌}
use Prim.Native.Nat.{ℕ, ◌-◌, ◌<◌}
use native.Mathlib.Omega.{arith}
use Rattle.formula.specs.InsidePrinting.{Writable}
use Rattle.formula.proofs.Writing.{leaf_fits, leaf_written, opening_fits, prefix_below, unread_written, prefix_written}
use Rattle.formula.proofs.Sorts.{two_left}
use Rattle.formula.proofs.Joining.{Opened, is_opened, is_half, is_joined, is_ended, one_below, middle_fits, other_below, closing_fits, pair_written}
use Rattle.formula.proofs.printing.+write.Goals as goal
use Rattle.formula.proofs.printing.+write.Goals.{Else-taken-eq1, Then-taken-eq1}

-- the operand of a prefix, behind its sign
below : (t : ℕ) (c : goal.Then-taken-eq1 t) → (0 < c.args.i) × Writable c.args.nodes.now c.put_opening-first.new.text (c.args.i - 1) c.put_opening-first.result
below t c = prefix_below c.requires (sym c.operands-taken.ensures ∙ c.if-taken-eq1.true) c.in-Some.ensures c.put_opening-first.ensures c.put_opening-first.auto.text

-- the pieces of a pair: its opening, the left operand, its middle, the right operand
opened : (t : ℕ) (c : goal.Else-taken-eq1 t) → Opened c.args.nodes.now c.args.text.now c.put_opening-first.new.text c.args.i c.args.place c.put_opening-first.result c.in-Some.node
opened t c =
    let two = two_left _ c.operands-taken.ensures c.if-taken-eq0.false c.if-taken-eq1.false in
    is_opened c.requires two c.in-Some.ensures c.put_opening-first.ensures c.put_opening-first.auto.text

pub returns-in_default : goal.returns-in_default
returns-in_default t c = unread_written c.in_default.ensures

pub write_leaf-requires : goal.write_leaf-requires
write_leaf-requires t c = leaf_fits c.requires (sym c.operands-taken.ensures ∙ c.if-taken-eq0.true) c.in-Some.ensures

pub returns-then-taken-eq0 : goal.returns-then-taken-eq0
returns-then-taken-eq0 t c = leaf_written (sym c.operands-taken.ensures ∙ c.if-taken-eq0.true) c.in-Some.ensures c.write_leaf.ensures

pub put_opening-first-requires : goal.put_opening-first-requires
put_opening-first-requires t c = opening_fits c.requires c.in-Some.ensures

pub overflow_sub-i : goal.overflow_sub-i
overflow_sub-i t c = (below t c).0

pub write-requires : goal.write-requires
write-requires t c =
    let rest = below t (goal.at.write-requires t c).Then-taken-eq1 in
    let less : c.args.i - 1 < t = omega (arith, c.decreases, rest.0) in
    (less, rest.1)

pub returns-then-taken-eq1 : goal.returns-then-taken-eq1
returns-then-taken-eq1 t c = prefix_written (sym c.operands-taken.ensures ∙ c.if-taken-eq1.true) c.in-Some.ensures c.put_opening-first.ensures c.write.ensures

pub write-join-requires : goal.write-join-requires
write-join-requires t c =
    let rest = one_below (opened t (goal.at.write-join-requires t c).Else-taken-eq1) in
    let less : c.in-Some.node.left < t = omega (arith, c.decreases, rest.0) in
    (less, rest.1)

pub put_middle-second-requires : goal.put_middle-second-requires
put_middle-second-requires t c =
    let o = opened t (goal.at.put_middle-second-requires t c).Else-taken-eq1 in
    middle_fits (is_half o c.write-join.ensures c.write-join.auto.text)

pub overflow_sub-i-2 : goal.overflow_sub-i-2
overflow_sub-i-2 t c =
    let o = opened t (goal.at.overflow_sub-i-2 t c).Else-taken-eq1 in
    let j = is_joined (is_half o c.write-join.ensures c.write-join.auto.text) c.put_middle-second.ensures c.put_middle-second.auto.text in
    (other_below j).0

pub write-end-requires : goal.write-end-requires
write-end-requires t c =
    let o = opened t (goal.at.write-end-requires t c).Else-taken-eq1 in
    let j = is_joined (is_half o c.write-join.ensures c.write-join.auto.text) c.put_middle-second.ensures c.put_middle-second.auto.text in
    let rest = other_below j in
    let less : c.args.i - 1 < t = omega (arith, c.decreases, rest.0) in
    (less, rest.1)

pub put-requires : goal.put-requires
put-requires t c =
    let o = opened t (goal.at.put-requires t c).Else-taken-eq1 in
    let j = is_joined (is_half o c.write-join.ensures c.write-join.auto.text) c.put_middle-second.ensures c.put_middle-second.auto.text in
    closing_fits (is_ended j c.write-end.ensures c.write-end.auto.text)

pub returns : goal.returns
returns t c =
    let o = opened t (goal.at.returns t c).Else-taken-eq1 in
    let j = is_joined (is_half o c.write-join.ensures c.write-join.auto.text) c.put_middle-second.ensures c.put_middle-second.auto.text in
    pair_written (is_ended j c.write-end.ensures c.write-end.auto.text) c.put.ensures
