-- `node_at` meets its contract.
use mathlib.Core.Path.{refl, sym, ap, ◌∙◌}
use Rattle.model.specs.Kinds.{kind_number}
use Rattle.formula.proofs.Sorts.{number_known}
use Rattle.formula.proofs.parts.node_at.Goals as goal

pub returns : goal.returns
returns c = record { kind = sym (ap kind_number c.in_ok-kind.ensures.1 ∙ number_known _ c.in_ok-kind.ensures.0); left = refl; right = refl }
