-- `read_formula` meets its contract.
use mathlib.Core.Path.{◌≡◌, sym, ◌∙◌}
use Prim.Native.Nat.{◌*◌}
use native.Mathlib.Omega.{arith}
use lib.ListN.{length, take, length-take}
use Rattle.std.proofs.lemmas.Bool.{eqb-true, eqb-false}
use Rattle.formula.proofs.ReadLaws.{read_tight, read_long, read_none, read_rest, read_many, read_done}
use Rattle.formula.proofs.read_formula.Goals as goal

pub returns-then-nodes-lt-MOST_NODE_NUMBERS : goal.returns-then-nodes-lt-MOST_NODE_NUMBERS
returns-then-nodes-lt-MOST_NODE_NUMBERS c =
    let a = c.args in
    read_tight a.text.now a.nodes.now c.if-nodes-lt-MOST_NODE_NUMBERS.true

pub returns-then-text-gt-MOST_FORMULA : goal.returns-then-text-gt-MOST_FORMULA
returns-then-text-gt-MOST_FORMULA c =
    let a = c.args in
    read_long a.text.now a.nodes.now c.if-nodes-lt-MOST_NODE_NUMBERS.false c.if-text-gt-MOST_FORMULA.true

pub returns-in_default : goal.returns-in_default
returns-in_default c =
    let a = c.args in
    read_none a.text.now a.nodes.now c.if-nodes-lt-MOST_NODE_NUMBERS.false c.in_default.ensures

pub returns-then-not-is_empty : goal.returns-then-not-is_empty
returns-then-not-is_empty c =
    let a = c.args in
    read_rest a.text.now a.nodes.now c.if-nodes-lt-MOST_NODE_NUMBERS.false c.if-text-gt-MOST_FORMULA.false _ _ _ _ c.in-Some.ensures (eqb-false _ 0 (sym c.if-not-is_empty.ensures))

pub returns-then-parsed-gt-MOST_NODES : goal.returns-then-parsed-gt-MOST_NODES
returns-then-parsed-gt-MOST_NODES c =
    let a = c.args in
    read_many a.text.now a.nodes.now c.if-nodes-lt-MOST_NODE_NUMBERS.false c.if-text-gt-MOST_FORMULA.false _ _ _ _ c.in-Some.ensures (eqb-true _ 0 (sym c.if-not-is_empty.ensures)) c.if-parsed-gt-MOST_NODES.true

pub returns : goal.returns
returns c =
    let a = c.args in
    let n = 3 * c.formula.new.place.nodes in
    let long : length (take n c.formula.new.space) ≡ n = length-take n c.formula.new.space ∙ omega (arith, c.if-parsed-gt-MOST_NODES.false) in
    read_done a.text.now a.nodes.now c.if-nodes-lt-MOST_NODE_NUMBERS.false c.if-text-gt-MOST_FORMULA.false _ _ _ _ c.in-Some.ensures (eqb-true _ 0 (sym c.if-not-is_empty.ensures)) c.if-parsed-gt-MOST_NODES.false _ (cc (c.copy_from_slice.ensures.after, long))
