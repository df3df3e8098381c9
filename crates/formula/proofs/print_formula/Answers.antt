-- `print_formula` meets its contract: the last node is the whole of a formula whose nodes are all of the list.
use mathlib.Core.Path.{◌≡◌, sym}
use Prim.Native.Nat.{◌+◌, ◌-◌, ◌*◌, ◌/◌}
use native.Mathlib.Omega.{arith}
use borrow.Author.Tests.{eqb-true}
use lib.ListN.{length}
use Rattle.formula.proofs.Accepting.{some_left, refused_tight, refused_none, empty_none, odd_none, whole_none, begun_later, formula_printed}
use Rattle.formula.proofs.print_formula.Goals as goal

pub returns-then-text-lt-MOST_FORMULA : goal.returns-then-text-lt-MOST_FORMULA
returns-then-text-lt-MOST_FORMULA c = refused_tight (omega (arith, c.if-text-lt-MOST_FORMULA.true))

pub returns-then-is_empty : goal.returns-then-is_empty
returns-then-is_empty c = refused_none (omega (arith, c.if-text-lt-MOST_FORMULA.false)) (empty_none (eqb-true _ 0 (sym c.if-is_empty.ensures)))

pub returns-then-nodes-ne0 : goal.returns-then-nodes-ne0
returns-then-nodes-ne0 c = refused_none (omega (arith, c.if-text-lt-MOST_FORMULA.false)) (odd_none c.if-nodes-ne0.true)

pub returns-in_default : goal.returns-in_default
returns-in_default c =
    let long : 3 * (length c.args.nodes.now / 3 - 1 + 1) ≡ length c.args.nodes.now = omega (arith, some_left _ c.if-is_empty.ensures, c.if-nodes-ne0.false) in
    refused_none (omega (arith, c.if-text-lt-MOST_FORMULA.false)) (whole_none long (c.in_default.ensures))

pub returns-then-whole-ne0 : goal.returns-then-whole-ne0
returns-then-whole-ne0 c =
    let long : 3 * (length c.args.nodes.now / 3 - 1 + 1) ≡ length c.args.nodes.now = omega (arith, some_left _ c.if-is_empty.ensures, c.if-nodes-ne0.false) in
    refused_none (omega (arith, c.if-text-lt-MOST_FORMULA.false)) (begun_later c.in-Some.ensures c.if-whole-ne0.true long)

pub returns : goal.returns
returns c =
    let long : 3 * (length c.args.nodes.now / 3 - 1 + 1) ≡ length c.args.nodes.now = omega (arith, some_left _ c.if-is_empty.ensures, c.if-nodes-ne0.false) in
    formula_printed c.in-Some.ensures long c.if-whole-ne0.false (omega (arith, c.if-text-lt-MOST_FORMULA.false)) c.write.ensures
