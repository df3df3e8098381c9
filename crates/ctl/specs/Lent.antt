-- The model that a lent structure is of: one without an initial list and nodes.
use Rattle.model.specs.Model.{Model}
use Rattle.ctl.specs.Inside.{structure_of}
use Rattle.ctl.specs.declared.nodes.Structure.{Structure}

abbrev pub model_of : Structure → Model
model_of s = structure_of s.graph.states s.atoms s.labels.now s.graph.transitions.now
