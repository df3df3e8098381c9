-- The cases of the kinds beside E and A, by computing.
use mathlib.Core.Path.{refl}
use native.Mathlib.Omega.{arith}
use Rattle.values.specs.declared.refusal.Refusal.TheVariants.{Kind, Operand}
use Rattle.promises.specs.Nights.{last_node}
use Rattle.promises.specs.KindNights.{KindNights, branching, joining}
use Rattle.promises.proofs.Nights.{refused_holds, row_holds}
use Rattle.ctl.specs.Rows as rows
use Rattle.ctl.specs.Nodes as nodes
use Rattle.model.specs.Kinds as kinds
use Rattle.model.specs.Refusals as judging
use Rattle.values.specs.Rows as stored
use Rattle.kripke.specs.Until as untils
use Rattle.kripke.specs.Transitions as graphs
use Rattle.kripke.specs.Walks as walking
use Rattle.kripke.specs.Refusals as tables
use Rattle.lists.specs.Entries as entries
use Rattle.lists.specs.Rows as rowed
use Rattle.lists.specs.Choosing as choosing
use Rattle.lists.specs.Causes as causes

pub kind_nights : KindNights
unfolding entries.any_below rowed.tab rowed.each choosing.best choosing.lowest graphs.succs walking.walks untils.place_value untils.until_value untils.until untils.next untils.everywhere untils.opposite kinds.kind_of nodes.node_value nodes.node_row rows.rows_from rows.rows_of rows.initial_states rows.over_initial rows.model_verdict judging.bad_initial judging.bad_nodes judging.names judging.judge_refusal stored.some_above stored.row_size stored.row_begin tables.bad_count tables.bad_list causes.refusal_of
kind_nights = (row_holds (branching _) 2 _ refl (omega arith) refl, (row_holds (branching _) 3 _ refl (omega arith) refl, (row_holds (branching _) 4 _ refl (omega arith) refl, (row_holds (branching _) 1 _ refl (omega arith) refl, (row_holds (branching _) 3 _ refl (omega arith) refl, (row_holds (branching _) 4 _ refl (omega arith) refl, (row_holds (branching _) 5 _ refl (omega arith) refl, (row_holds joining 2 _ refl (omega arith) refl, (row_holds joining 3 _ refl (omega arith) refl, (row_holds joining 4 _ refl (omega arith) refl, (refused_holds (last_node _) Kind refl, (refused_holds (last_node _) Operand refl, (refused_holds (last_node _) Operand refl, tt)))))))))))))
