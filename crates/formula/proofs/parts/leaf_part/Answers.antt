-- `leaf_part` meets its contract: true, an atom below the most, or neither.
use mathlib.Core.Path.{ap}
use Prim.Native.Nat.{ℕ, ◌+◌}
use native.Mathlib.Omega.{arith}
use Rattle.values.proofs.Decimals.{decimal_short}
use Rattle.formula.proofs.Sorts.{no_operand}
use Rattle.formula.proofs.PartLaws.{leaf_right, leaf_high, leaf_left, leaf_atom, leaf_true}
use Rattle.formula.proofs.parts.leaf_part.Goals as goal

pub returns-then-node-ne0 : goal.returns-then-node-ne0
returns-then-node-ne0 c = leaf_right _ _ c.requires c.if-node-ne0.true

pub returns-then-node-ge-MOST_ATOMS : goal.returns-then-node-ge-MOST_ATOMS
returns-then-node-ge-MOST_ATOMS c = leaf_high _ _ c.requires c.in-Atom.is (omega (arith, c.if-node-ge-MOST_ATOMS.true))

pub overflow_add-result : goal.overflow_add-result
overflow_add-result c = record { fits = omega (arith, c.digits.ensures, decimal_short c.args.node.left) }

pub returns-in-Atom : goal.returns-in-Atom
returns-in-Atom c = leaf_atom _ _ c.in-Atom.is c.if-node-ne0.false (omega (arith, c.if-node-ge-MOST_ATOMS.false)) (ap (λ (n : ℕ). n + 1) c.digits.ensures)

pub returns-then-node-ne0-2 : goal.returns-then-node-ne0-2
returns-then-node-ne0-2 c = leaf_left _ _ c.requires c.in_default.not-Atom c.if-node-ne0-2.true

pub returns : goal.returns
returns c = leaf_true _ _ (no_operand _ c.requires c.in_default.not-Atom) c.if-node-ne0-2.false c.if-node-ne0.false
