-- `bad_operand` meets its contract: the left number, then the right one, against its bound.
use mathlib.Core.Path.{◌≡◌, sym, ap, ◌∙◌, subst}
use Prim.Native.Nat.{ℕ, ◌≤◌, ◌<◌}
use mathlib.Core.Bool.{not}
use lib.Dec.{leb}
use borrow.Author.Tests.{lt-ltb, le-ltb, le-leb}
use Rattle.model.specs.Kinds.{bound, kind_of, uses}
use Rattle.model.specs.declared.kinds.Kind.{Kind}
use Rattle.model.specs.Model.{kind_at, left_at, right_at}
use Rattle.lists.proofs.Tests.{not_ltb, or_fails, or_left}
use Rattle.model.proofs.KindLaws.{kind_read}
use Rattle.model.proofs.refusals.bad_operand.Goals as goal
use Rattle.model.proofs.refusals.bad_operand.Goals.{After-bounds-left_bound}

-- the bounds are those of the kind that the node's first number is
module _ (c : After-bounds-left_bound) where
  read : Kind
  read = kind_of (kind_at c.args.nodes.now c.args.i)

  is_bound : c.bounds-left_bound.result ≡ (bound (uses read).0 c.args.atoms c.args.i, bound (uses read).1 c.args.atoms c.args.i)
  unfolding read
  is_bound = c.bounds-left_bound.ensures ∙ ap (λ (k : Kind). (bound (uses k).0 c.args.atoms c.args.i, bound (uses k).1 c.args.atoms c.args.i)) (kind_read _ c.of.result _ c.of.ensures c.unwrap_or-kind.ensures)

  left_is : c.bounds-left_bound.result.0 ≡ bound (uses read).0 c.args.atoms c.args.i
  left_is = λ i. (is_bound i).0

  right_is : c.bounds-left_bound.result.1 ≡ bound (uses read).1 c.args.atoms c.args.i
  right_is = λ i. (is_bound i).1

pub returns-then-left_bound-left : goal.returns-then-left_bound-left
unfolding read
returns-then-left_bound-left c =
    let e = left_is (goal.at.returns-then-left_bound-left c).After-bounds-left_bound in
    le-leb _ _ c.if-left_bound-left.true ∙ sym (or_left _ _ (ap not (le-ltb _ _ (subst (λ (b : ℕ). b ≤ left_at c.args.nodes.now c.args.i) e c.if-left_bound-left.true))))

pub returns-else-left_bound-left : goal.returns-else-left_bound-left
unfolding read
returns-else-left_bound-left c =
    let k = (goal.at.returns-else-left_bound-left c).After-bounds-left_bound in
    ap (λ (b : ℕ). leb b (right_at c.args.nodes.now c.args.i)) (right_is k) ∙ sym (not_ltb (right_at c.args.nodes.now c.args.i) _) ∙ sym (or_fails _ _ (ap not (lt-ltb _ _ (subst (λ (b : ℕ). left_at c.args.nodes.now c.args.i < b) (left_is k) c.if-left_bound-left.false))))
