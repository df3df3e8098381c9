-- `put_node` meets its contract: both operands' rows, the node's row in a scratch row, and that into the space.
use mathlib.Core.Path.{◌≡◌, ap, ◌∙◌}
use Prim.Native.Nat.{ℕ}
use mathlib.Core.List.{List}
use Rattle.lists.specs.Rows.{laid}
use Rattle.values.specs.Rows.{row_begin, stored_row}
use Rattle.model.specs.Kinds.{kind_of}
use Rattle.model.specs.Model.{kind_at, left_at, right_at}
use Rattle.model.specs.declared.kinds.Kind.{Kind}
use Rattle.model.proofs.KindLaws.{kind_read}
use Rattle.ctl.specs.Inside.{node_row_at, operand_row}
use Rattle.ctl.specs.Lent.{model_of}
use Rattle.ctl.specs.Nodes.{node_row}
use Rattle.ctl.proofs.FineRows.{node_row_same}
use Rattle.lists.proofs.Rows.{filled_front}
use Rattle.ctl.proofs.rows.put_node.Goals as goal
use Rattle.ctl.proofs.rows.put_node.Goals.{After-unwrap_or-kind}

is_kind : (c : After-unwrap_or-kind) → c.unwrap_or-kind.result ≡ kind_of (kind_at c.args.nodes.now c.args.i)
is_kind c = kind_read _ c.of.result _ c.of.ensures c.unwrap_or-kind.ensures

pub returns : goal.returns
unfolding node_row_at
returns c =
    let x = c.args in
    let s = x.structure.now in
    c.put_row.ensures ∙ ap (λ (r : List ℕ). laid (row_begin s.graph.states x.i) (stored_row r) x.verdicts.now) (filled_front _ _ _ _ c.node_row.ensures ∙ node_row_same (model_of s) _ _ _ _ _ _ c.operand-left.ensures c.operand-right.ensures ∙ ap (λ (k : Kind). node_row (model_of s) k (left_at x.nodes.now x.i) (operand_row s.graph.states x.verdicts.now x.i (left_at x.nodes.now x.i)) (operand_row s.graph.states x.verdicts.now x.i (right_at x.nodes.now x.i))) (is_kind (goal.at.returns c).After-unwrap_or-kind))
