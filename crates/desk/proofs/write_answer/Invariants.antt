-- `write_answer` is safe: the buffer keeps its length, within which each line lies.
use mathlib.Core.Path.{◌≡◌}
use lib.ListN.{length}
use Rattle.answer.specs.Lines.{most_line}
use Rattle.desk.proofs.write_answer.Given as goal

abbrev pub invariant-loop-k : goal.invariant-loop-k
invariant-loop-k g l = length l.buffer ≡ most_line
