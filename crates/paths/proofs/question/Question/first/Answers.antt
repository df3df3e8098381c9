-- `first` meets its contract: the distances that `measure` left are those that the descent goes by.
use Rattle.paths.proofs.Rounding.{far_layers}
use Rattle.paths.proofs.question.Question.first.Goals as goal

pub invariant_of-descent : goal.invariant_of-descent
invariant_of-descent c =
    record { layers = far_layers c.args.self.now.graph.ready.accepted.graph (λ s h. h.0) (λ s h. h.0) c.measure.ensures }
