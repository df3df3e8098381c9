-- `put_rows` meets its contract: after i nodes the space holds their rows.
use mathlib.Core.Path.{◌∙◌}
use native.Mathlib.Omega.{arith}
use Rattle.ctl.specs.Lent.{model_of}
use Rattle.ctl.proofs.Lent.{lent_judgeable}
use Rattle.model.specs.Model.{node_count}
use Rattle.ctl.proofs.FineRows.{next_within, space_fit, space_next, space_start}
use Rattle.ctl.proofs.rows.put_rows.Goals as goal

pub loop-i-init : goal.loop-i-init
loop-i-init c = space_start _ c.args.nodes.now _

pub put_node-requires : goal.put_node-requires
put_node-requires c =
    let x = c.args in
    let l = c.loop-i in
    let fit = space_fit (model_of x.structure.now) x.structure.now.graph.begins.now x.nodes.now x.verdicts.now (lent_judgeable x.structure.now) c.requires.room l.i (omega arith) l.verdicts l.invariant in
    record {
      listed = omega arith;
      atom = c.requires.nodes.atoms l.i (omega arith);
      rows = fit.0;
      room = omega (arith, fit.1, c.requires.room, next_within x.structure.now.graph.states l.i (node_count x.nodes.now) (omega arith));
    }

pub loop-i-preserved : goal.loop-i-preserved
loop-i-preserved c =
    let x = c.args in
    let l = c.loop-i in
    c.put_node.ensures ∙ space_next (model_of x.structure.now) x.structure.now.graph.begins.now x.nodes.now x.verdicts.now (lent_judgeable x.structure.now) c.requires.room l.i (omega arith) l.verdicts l.invariant (omega arith)
