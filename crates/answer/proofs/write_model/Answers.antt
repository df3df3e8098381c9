-- `write_model` meets its contract: the key, the letter and the line feed, one behind the other.
use native.Mathlib.Omega.{arith}
use borrow.Author.Tests.{le-leb}
use mathlib.Core.Path.{ap, ◌∙◌}
use Rattle.answer.specs.Lines.{model_line, letter_of}
use Rattle.lists.proofs.Placed.{put_then}
use Rattle.answer.proofs.Promises.{line_put, line_short, line_some}
use Rattle.answer.proofs.Sizes.{model_size}
use Rattle.answer.proofs.write_model.Goals as goal

pub returns-then-buffer-lt8 : goal.returns-then-buffer-lt8
returns-then-buffer-lt8 c = line_some _ (le-leb _ _ c.in-Some.ensures.1) (line_short _ _ (omega (arith, model_size c.args.verdict.0)))

pub returns : goal.returns
unfolding model_line
returns c =
    let model = c.args.verdict.0 in
    line_some _ (le-leb _ _ c.in-Some.ensures.1)
    (line_put
    (put_then c.put_bytes-a.ensures (put_then (rw (c.letter.ensures ∙ ap letter_of c.in-Some.ensures.0) at c.put_byte-b.ensures) c.put_byte-end.ensures))
    (omega (arith, model_size model)))
