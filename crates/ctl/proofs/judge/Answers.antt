-- `judge` meets its contract: a refusal leaves the space, and otherwise the rows stand there and the last one gives the verdict.
use mathlib.Core.Path.{ap, ◌∙◌}
use mathlib.Core.List.{List}
use Prim.Native.Nat.{ℕ}
use lib.ListN.{length}
use Rattle.lists.specs.Rows.{fill}
use Rattle.values.specs.Answers.{verdict}
use Rattle.model.specs.Inside.{Fine}
use Rattle.model.specs.Model.{Model, as_model}
use Rattle.ctl.specs.Inside.{Judgeable, RowsReady}
use Rattle.ctl.specs.Rows.{stored_rows}
use Rattle.ctl.proofs.JudgeLaws.{judged_rows, last_ready, last_verdict, lent_fine, rows_of_lem, rows_ready, structure}
use Rattle.model.proofs.Fine.{judge_fine}
use Rattle.ctl.proofs.judge.Goals as goal
use Rattle.ctl.proofs.judge.Goals.{In_ok-table}

-- the model that is lent, where nothing is refused
abbrev lent : In_ok-table → Model
lent c = let x = c.args in as_model x.states x.atoms x.labels.now x.initial.now x.transitions.now x.nodes.now

ready : (c : In_ok-table) → RowsReady (structure (lent c)) (lent c).nodes c.args.verdicts.now
ready c = rows_ready (lent c) _ c.in_ok-table.ensures.0

judgeable : (c : In_ok-table) → Judgeable (structure (lent c)) c.in_ok-table.table.begins
judgeable c = lent_fine (lent c) _ _ c.in_ok-table.ensures.0 c.in_ok-table.ensures.1

fine : (c : In_ok-table) → Fine (lent c) (length c.args.verdicts.now)
fine c = judge_fine (lent c) _ c.in_ok-table.ensures.0

pub put_rows-requires : goal.put_rows-requires
put_rows-requires c = ready (goal.at.put_rows-requires c).In_ok-table

pub model_verdict-requires : goal.model_verdict-requires
model_verdict-requires c =
    let k = (goal.at.model_verdict-requires c).In_ok-table in
    last_ready (lent k) _ _ _ (judgeable k) (ready k) c.put_rows.ensures _ (fine k)

pub returns : goal.returns
returns c =
    let k = (goal.at.returns c).In_ok-table in
    let before : List ℕ = c.args.verdicts.now in
    judged_rows (lent k) before _ _ c.in_ok-table.ensures.0 (c.put_rows.ensures ∙ ap (λ (rows : List (List ℕ)). fill (stored_rows rows) before) (rows_of_lem (lent k))) (c.model_verdict.ensures ∙ ap verdict (last_verdict (lent k) _ _ _ (judgeable k) (ready k) c.put_rows.ensures))

pub invariant_of-graph : goal.invariant_of-graph
invariant_of-graph c = record { ready = (judgeable (goal.at.invariant_of-graph c).In_ok-table).tables }

pub invariant_of-structure : goal.invariant_of-structure
invariant_of-structure c = let j = judgeable (goal.at.invariant_of-structure c).In_ok-table in record { labelled = j.labelled; small = j.small }
