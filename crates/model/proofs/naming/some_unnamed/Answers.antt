-- `some_unnamed` meets its contract: a search through the marks.
use mathlib.Core.Path.{◌∙◌}
use mathlib.Core.Bool.{Bool}
use native.Mathlib.Omega.{arith}
use lib.ListN.{length-replicate}
use Rattle.values.specs.Limits.{most_atoms}
use Rattle.model.proofs.Marks.{fits_wider, marks_tell, unmarked}
use Rattle.model.proofs.naming.some_unnamed.Goals as goal

pub mark_named-requires : goal.mark_named-requires
mark_named-requires c =
    (unmarked _ most_atoms, fits_wider _ c.args.atoms _ (omega (arith, c.requires.0, length-replicate {A = Bool} most_atoms)) c.requires.1)

pub returns : goal.returns
returns c = c.contains.ensures.value ∙ marks_tell _ _ _ c.mark_named.ensures (omega (arith, c.requires.0, c.mark_named.auto.marks, length-replicate {A = Bool} most_atoms))
