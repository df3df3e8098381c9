-- `next_at` meets its contract: what was chosen and what is still to come give the whole.
use Rattle.std.proofs.Common.{◌≡◌, ℕ, ◌<◌, map}
use Rattle.lists.specs.Entries.{at, All}
use Rattle.lists.proofs.Choosing.{run}
use Rattle.values.specs.Values.{choose}
use Rattle.kripke.specs.Answers.{targets}
use Rattle.kripke.specs.Until.{next}
use Rattle.ctl.proofs.until.next_at.Given as goal

abbrev pub invariant-loop-t : goal.invariant-loop-t
invariant-loop-t l = record {
  whole : run (choose l.all) l.best.0 (map (at l.row) (targets l.t-iterator.pairs.now)) ≡ next l.all l.graph.transitions.now l.row l.s;
  inside : All (λ (t : ℕ). t < l.graph.states) (targets l.t-iterator.pairs.now);
}
