-- `list` ends after so many paths, and the space and the line keep their lengths.
use mathlib.Core.Path.{◌≡◌}
use lib.ListN.{length}
use Rattle.values.specs.Limits.{most_states}
use Rattle.answer.specs.Lines.{most_path_line}
use Rattle.witness.proofs.telling.Until.list.Given as goal

abbrev pub invariant-loop-line_told : goal.invariant-loop-line_told
invariant-loop-line_told g l = (length l.space ≡ most_states) × (length l.line ≡ most_path_line)

abbrev pub decreases-loop-line_told : goal.decreases-loop-line_told
decreases-loop-line_told g l = l.rest
