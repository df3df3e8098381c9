-- What a lent structure has, as the laws of rows ask for it.
use Rattle.ctl.specs.Inside.{Judgeable}
use Rattle.ctl.specs.Lent.{model_of}
use Rattle.ctl.specs.declared.nodes.Structure.{Structure}

pub lent_judgeable : (s : Structure) → Judgeable (model_of s) s.graph.begins.now
lent_judgeable s = record { tables = s.graph.ready; labelled = s.labelled; small = s.small }
