-- `check_nodes` meets its contract: each return names the test that held, and those before it that did not.
use mathlib.Core.Path.{sym, ◌∙◌, subst}
use Prim.Native.Nat.{ℕ, ◌*◌, ◌≤◌, ◌<◌}
use native.Mathlib.Omega.{arith}
use native.Mathlib.Nat.{mul-le-mul, le_trans, le_of_eq}
use borrow.Author.Tests.{lt-ltb, le-ltb}
use Rattle.model.specs.Model.{node_count}
use Rattle.values.specs.Limits.{most_nodes}
use Rattle.values.specs.Rows.{row_begin}
use Rattle.model.proofs.Fine.{nodes_fit}
use Rattle.model.proofs.Lowest.{nodes_few}
use Rattle.values.proofs.StoredRows.{row_size_within}
use Rattle.lists.proofs.Causes.{none_refused, refused, skipped}
use Rattle.model.proofs.refusals.check_nodes.Goals as goal

pub returns-then-bad_nodes : goal.returns-then-bad_nodes
returns-then-bad_nodes c = refused _ _ _ (sym c.bad_nodes.ensures ∙ c.if-bad_nodes.true)

pub returns-then-some_kind_above : goal.returns-then-some_kind_above
returns-then-some_kind_above c = skipped _ _ _ (sym c.bad_nodes.ensures ∙ c.if-bad_nodes.false) ∙ refused _ _ _ (sym c.some_kind_above.ensures ∙ c.if-some_kind_above.true)

pub returns-then-some_bad_operand : goal.returns-then-some_bad_operand
returns-then-some_bad_operand c = skipped _ _ _ (sym c.bad_nodes.ensures ∙ c.if-bad_nodes.false) ∙ skipped _ _ _ (sym c.some_kind_above.ensures ∙ c.if-some_kind_above.false) ∙ refused _ _ _ (sym c.some_bad_operand.ensures ∙ c.if-some_bad_operand.true)

pub overflow_mul-nodes : goal.overflow_mul-nodes
overflow_mul-nodes c =
    let x = c.args in
    let small : node_count x.nodes.now ≤ most_nodes = nodes_few x.nodes.now (sym c.bad_nodes.ensures ∙ c.if-bad_nodes.false) in
    omega (arith, c.row_size.ensures, mul-le-mul small (le_trans (le_of_eq c.row_size.ensures) (le_trans (row_size_within x.states) c.requires.0)))

pub returns-then-room-nodes : goal.returns-then-room-nodes
unfolding row_begin
returns-then-room-nodes c = skipped _ _ _ (sym c.bad_nodes.ensures ∙ c.if-bad_nodes.false) ∙ skipped _ _ _ (sym c.some_kind_above.ensures ∙ c.if-some_kind_above.false) ∙ skipped _ _ _ (sym c.some_bad_operand.ensures ∙ c.if-some_bad_operand.false) ∙ refused _ _ _ (lt-ltb _ _ (subst (λ (z : ℕ). c.args.room < node_count c.args.nodes.now * z) c.row_size.ensures c.if-room-nodes.true))

pub some_unnamed-requires : goal.some_unnamed-requires
some_unnamed-requires c =
    let x = c.args in
    (c.requires.1, nodes_fit x.atoms x.nodes.now (sym c.bad_nodes.ensures ∙ c.if-bad_nodes.false) (sym c.some_bad_operand.ensures ∙ c.if-some_bad_operand.false))

pub returns-then-some_unnamed : goal.returns-then-some_unnamed
unfolding row_begin
returns-then-some_unnamed c = skipped _ _ _ (sym c.bad_nodes.ensures ∙ c.if-bad_nodes.false) ∙ skipped _ _ _ (sym c.some_kind_above.ensures ∙ c.if-some_kind_above.false) ∙ skipped _ _ _ (sym c.some_bad_operand.ensures ∙ c.if-some_bad_operand.false) ∙ skipped _ _ _ (le-ltb _ _ (subst (λ (z : ℕ). node_count c.args.nodes.now * z ≤ c.args.room) c.row_size.ensures c.if-room-nodes.false)) ∙ refused _ _ _ (sym c.some_unnamed.ensures ∙ c.if-some_unnamed.true)

pub returns : goal.returns
unfolding row_begin
returns c = skipped _ _ _ (sym c.bad_nodes.ensures ∙ c.if-bad_nodes.false) ∙ skipped _ _ _ (sym c.some_kind_above.ensures ∙ c.if-some_kind_above.false) ∙ skipped _ _ _ (sym c.some_bad_operand.ensures ∙ c.if-some_bad_operand.false) ∙ skipped _ _ _ (le-ltb _ _ (subst (λ (z : ℕ). node_count c.args.nodes.now * z ≤ c.args.room) c.row_size.ensures c.if-room-nodes.false)) ∙ skipped _ _ _ (sym c.some_unnamed.ensures ∙ c.if-some_unnamed.false) ∙ none_refused
