-- What the calls promise, for every input: how long a line can be, and of each writer the answer and the whole buffer.
use Rattle.std.specs.Prelude.{ℕ, ◌≡◌, List, Bool, Result, Ok, Err, cond, not, ◌&&◌, length, ltb, leb}
use Rattle.lists.specs.Rows.{fill_if}
use Rattle.values.specs.Values.{top}
use Rattle.values.specs.Limits.{most_states}
use Rattle.values.specs.Rows.{bad_row, row_values}
use Rattle.answer.specs.Lines.{answer_line, row_line, model_line, path_line, most_line, most_path_line}
use Rattle.answer.specs.declared.Lengths.{Lengths}
use Rattle.answer.specs.declared.Unwritten.{Unwritten}
use Rattle.answer.specs.declared.Unwritten.TheVariants.{NoRoom, NoLine}

-- `longest`: the bytes of the longest line of a path, and of the longest other line
abbrev pub longest_lines : Lengths
longest_lines = record { line = most_line; path = most_path_line }

-- what is due: a line, or none
pub data Due : Type 0 where
  line : List ℕ → Due
  none : Due

-- a line where there is one
abbrev pub line_if : Bool → List ℕ → Due
line_if valid bytes = cond valid (line bytes) none

-- `write_number`: every number has its line
abbrev pub number_due : ℕ → Due
number_due n = line (answer_line n)

-- `write_row`: the line of a stored row of S states; what is no row has none
abbrev pub row_due : ℕ → List ℕ → Due
row_due S stored = line_if (leb S most_states && not (bad_row S stored)) (row_line (row_values S stored))

-- `write_model`: the line of a verdict; a number above 2 is none
abbrev pub model_due : ℕ → Due
model_due v = line_if (leb v top) (model_line v)

-- `write_path`: the line of a list of one entry or more, and no more than there may be states; any other list has none
abbrev pub path_due : List ℕ → Due
path_due path = line_if (ltb 0 (length path) && leb (length path) most_states) (path_line path)

-- the answer: how many bytes the line has, or that it has no room, or that there is none
abbrev pub answer_due : Due → ℕ → Result ℕ Unwritten
answer_due (line bytes) room = cond (leb (length bytes) room) (Ok (length bytes)) (Err NoRoom)
answer_due none room = Err NoLine

-- the buffer afterwards: the line at its front where it has room, and the rest as it was
abbrev pub buffer_due : Due → List ℕ → List ℕ
buffer_due (line bytes) before = fill_if bytes before
buffer_due none before = before

-- the promise of each writer
pub record LineWritten (due : Due) (before after : List ℕ) (answer : Result ℕ Unwritten) : Type 0 where
  pub answers : answer ≡ answer_due due (length before)
  pub buffer : after ≡ buffer_due due before
