-- What text is promised: reading it, and writing the answer. What each call promises is named in its own crate.
use Rattle.std.specs.Prelude.{◌≡◌, ℕ, ◌≤◌, false, ◌↔◌, length, replicate, Result, Ok, Err}
use mathlib.Core.List.{List, [], ◌∷◌, Memᴰ}
use Rattle.lists.specs.Entries.{All}
use Rattle.values.specs.Limits.{most_states, most_text}
use Rattle.values.specs.Rows.{most_verdicts, row_values}
use Rattle.kripke.specs.Transitions.{count}
use Rattle.model.specs.Model.{Model, node_count}
use Rattle.ctl.specs.Rows.{rows_of, model_verdict}
use Rattle.form.specs.Readers.Reading.{found}
use Rattle.form.specs.Form.{model_text}
use Rattle.form.specs.Print.{print, Printable}
use Rattle.text.specs.Answers as reading
use Rattle.text.specs.Answers.{Tables, Outcome, any_short, text_outcome, outcome, tables_due, ModelRead, Accepted, refusals, Occurs}
use Rattle.text.specs.declared.Counts.{Counts}
use Rattle.values.specs.Refusal.{answer_number, number_of}
use Rattle.values.specs.declared.refusal.Refusal.{Refusal}
use Rattle.answer.specs.Lines.{answer_line, row_line, path_line, most_line, most_path_line}
use Rattle.answer.specs.Answers.{Due, LineWritten, number_due, row_due, model_due, path_due}
use Rattle.answer.specs.Answers.Due.{line}
use Rattle.sheet.specs.Answers.{TextJudged, LinePut}
use Rattle.sheet.specs.Output.{Place, output, whole}
use Rattle.sheet.specs.declared.Sheet.{Sheet}
use Rattle.paths.specs.Questions.{Question}
use Rattle.listing.specs.Answers.{LineListed}
use Rattle.listing.specs.declared.Call.{Call}
use Rattle.listing.specs.declared.Listed.{Listed}
use Rattle.promises.specs.One.{One}

-- "A refusal changes nothing we lent": none of the four tables.
abbrev pub TextRefusalKeeps : Type 0
TextRefusalKeeps = (text : List ℕ) (before after : Tables) (e : Refusal) → ModelRead text before after (Err e) → after ≡ before

-- The number is the one that is due: 24 first, 18 next, and then what the form gives; 0 where a model is read.
abbrev pub TextNumber : Type 0
TextNumber = (text : List ℕ) (before after : Tables) (r : Result Counts Refusal) → ModelRead text before after r → answer_number r ≡ reading.number_due (outcome before text)

-- It is 1, 2, 6, 10, 18, 19 or 24, no other, and each of them occurs.
abbrev pub TextNumbers : Type 0
TextNumbers = ((text : List ℕ) (before after : Tables) (e : Refusal) → ModelRead text before after (Err e) → Memᴰ (number_of e) refusals) × All Occurs refusals

-- A text is in the form of a model exactly if it is the print of it.
abbrev pub FormIsPrint : Type 0
FormIsPrint = (text : List ℕ) (m : Model) → (model_text text ≡ found m []) ↔ ((text ≡ print m) × Printable m)

-- The print of a model is read as that model: the fronts of the tables are filled with it, and the rest stays.
abbrev pub PrintIsRead : Type 0
PrintIsRead =
    (before after : Tables) (m : Model) (r : Result Counts Refusal) → Printable m → any_short before ≡ false → length (print m) ≤ most_text → ModelRead (print m) before after r
    → (r ≡ Ok (record { states = m.states; atoms = m.atoms; transitions = count m.transitions; nodes = node_count m.nodes })) × (after ≡ tables_due (Outcome.model m) before)

-- No model's print passes the limit of a text.
abbrev pub PrintFits : Type 0
PrintFits = (m : Model) → Printable m → length (print m) ≤ most_text

-- Whatever is accepted is the print of what was read.
abbrev pub ReadIsPrint : Type 0
ReadIsPrint = (text : List ℕ) (before after : Tables) (c : Counts) → ModelRead text before after (Ok c) → Accepted text before after c

-- "Every answer is pinned down to the last entry." Any two answers that reading may give coincide, and so do the tables;
abbrev pub OneReading : Type 0
OneReading = (text : List ℕ) (before : Tables) → One (ModelRead text before)

-- so do those of each writer, and the buffers;
abbrev pub OneLine : Type 0
OneLine = (due : Due) (before : List ℕ) → One (LineWritten due before)

-- No line of a writer is longer than `longest` says,
abbrev pub LinesFit : Type 0
LinesFit =
    ((n : ℕ) (bytes : List ℕ) → number_due n ≡ line bytes → length bytes ≤ most_line)
    × ((S : ℕ) (stored bytes : List ℕ) → row_due S stored ≡ line bytes → length bytes ≤ most_line)
    × ((v : ℕ) (bytes : List ℕ) → model_due v ≡ line bytes → length bytes ≤ most_line)
    × ((path bytes : List ℕ) → path_due path ≡ line bytes → length bytes ≤ most_path_line)

-- and a row of the most states, and a path of as many with five digits each, are as long.
abbrev pub LinesReach : Type 0
LinesReach =
    ((stored : List ℕ) → length (row_line (row_values most_states stored)) ≡ most_line)
    × ((n : ℕ) → 10000 ≤ n → n ≤ 65535 → length (path_line (replicate most_states n)) ≡ most_path_line)

-- Any two answers of the two calls that the programs share coincide, too.
abbrev pub OneSheet : Type 0
OneSheet = (text before : List ℕ) → One (TextJudged text before)

abbrev pub OneSheetLine : Type 0
OneSheetLine = (place : Place) (before : List ℕ) → One (LinePut place before)

-- and so do those of a listing's line, the path space and the buffer.
abbrev pub OneListing : Type 0
OneListing =
    (q : Question) (most : ℕ) (c : Call) (space a b buffer d e : List ℕ) (r s : Listed)
    → LineListed q most c space a buffer d r → LineListed q most c space b buffer e s → (r ≡ s) × (a ≡ b) × (d ≡ e)

-- "A refusal changes nothing we lent": judging a text, the verdict space stays, whether reading or judging refused it. The whole answer is
-- one line then.
abbrev pub SheetRefusal : Type 0
SheetRefusal =
    (text before after : List ℕ) (r : Sheet) → TextJudged text before after r → (r.number ≡ 0 → ⊥)
    → (after ≡ before) × (output r after ≡ line (answer_line r.number) ∷ [])

-- "5, 7, 8, 9, 11, 12 come from judging what was read": in a space for the largest model a text is never refused with 3, 4 or 13.
abbrev pub SheetNumbers : Type 0
SheetNumbers =
    (text before after : List ℕ) (r : Sheet) → most_verdicts ≤ length before → TextJudged text before after r
    → (r.number ≡ 3 → ⊥) × (r.number ≡ 4 → ⊥) × (r.number ≡ 13 → ⊥)

-- Otherwise it is the rows of the model's meaning and its verdict, a line each.
abbrev pub SheetMeaning : Type 0
SheetMeaning =
    (text : List ℕ) (m : Model) (before after : List ℕ) (r : Sheet) → text_outcome text ≡ Outcome.model m → TextJudged text before after r
    → r.number ≡ 0 → output r after ≡ whole (rows_of m) (model_verdict m)
