-- `pick` meets its contract: what is still to come has the same first that fits, and every successor has a distance.
use Rattle.std.proofs.Common.{◌≡◌, ℕ, ◌<◌}
use Rattle.lists.specs.Entries.{All}
use Rattle.kripke.specs.Answers.{targets}
use Rattle.values.specs.Limits.{most_states}
use Rattle.kripke.specs.Transitions.{succs}
use Rattle.paths.specs.Inside.{first_fit}
use Rattle.paths.proofs.descent.pick.Given as goal

abbrev pub invariant-loop-t : goal.invariant-loop-t
invariant-loop-t l = record {
  fit : first_fit l.distances l.want l.above (targets l.t-iterator.pairs.now) ≡ first_fit l.distances l.want l.above (succs l.graph.transitions.now l.s);
  inside : All (λ (t : ℕ). t < most_states) (targets l.t-iterator.pairs.now);
}
