-- `examine` meets its contract: the parts of the table of causes in turn.
use mathlib.Core.Path.{◌∙◌}
use Rattle.values.proofs.Refusing.{handed_on}
use Rattle.kripke.proofs.Refusals.{count_few}
use Rattle.model.proofs.Lowest.{atoms_few, judge_count, judge_labels, judge_nodes, judge_table}
use Rattle.model.proofs.examine.Goals as goal

pub returns-in_err-check_count : goal.returns-in_err-check_count
returns-in_err-check_count c = handed_on _ _ _ _ c.from_residual.ensures.1 (judge_count _ _ _ c.in_err-check_count.ensures)

pub check_labels-requires : goal.check_labels-requires
check_labels-requires c = count_few _ c.in_ok-check_count.ensures

pub returns-in_err-check_labels : goal.returns-in_err-check_labels
returns-in_err-check_labels c = handed_on _ _ _ _ c.from_residual-in_err-check_labels.ensures.1 (judge_labels _ _ _ c.in_ok-check_count.ensures c.in_err-check_labels.ensures)

pub returns-in_err-table : goal.returns-in_err-table
returns-in_err-table c = handed_on _ _ _ _ c.from_residual-in_err-table.ensures.1 (judge_table _ _ _ c.in_ok-check_count.ensures c.in_ok-check_labels.ensures c.in_err-table.ensures)

pub check_nodes-requires : goal.check_nodes-requires
check_nodes-requires c = (count_few _ c.in_ok-check_count.ensures, atoms_few c.args.states c.args.atoms c.args.labels.now c.args.initial.now c.in_ok-check_labels.ensures)

pub returns-in_err-check_nodes : goal.returns-in_err-check_nodes
returns-in_err-check_nodes c = handed_on _ _ _ _ c.from_residual-in_err-check_nodes.ensures.1 (judge_nodes _ _ c.in_ok-check_count.ensures c.in_ok-check_labels.ensures c.in_ok-table.ensures.0 ∙ c.in_err-check_nodes.ensures)

pub returns : goal.returns
returns c = (judge_nodes _ _ c.in_ok-check_count.ensures c.in_ok-check_labels.ensures c.in_ok-table.ensures.0 ∙ c.in_ok-check_nodes.ensures, c.in_ok-table.ensures.1)
