-- Each line lies within the buffer.
use mathlib.Core.Path.{ap, ◌∙◌}
use native.Mathlib.Omega.{arith}
use Rattle.std.specs.Prelude.{Ok}
use Rattle.sheet.proofs.Output.{line_within}
use Rattle.desk.proofs.write_answer.Goals as goal

pub slice_bounds-buffer-end : goal.slice_bounds-buffer-end
slice_bounds-buffer-end g c = omega (arith, line_within _ _ _ _ _ c.write_line.ensures (c.in-Ok-Some.is ∙ ap Ok c.in-Ok-Some.field-0-is))
