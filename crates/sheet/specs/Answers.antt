-- What the calls promise, for every input: `judge_text` and `judge_formula` the sheet and the verdict space, `write_line` its answer and the buffer.
use Rattle.std.specs.Prelude.{ℕ, ◌≡◌, List, Option, Some, None, Result, Ok, Err, length}
use Rattle.values.specs.Answers.{verdict}
use Rattle.values.specs.Limits.{most_node_numbers}
use Rattle.model.specs.Model.{Model, as_model, node_count}
use Rattle.values.specs.Refusal as refusal
use Rattle.ctl.specs.Answers.{Judging}
use Rattle.ctl.specs.Answers.{Judged}
use Rattle.text.specs.Answers.{Outcome, text_outcome}
use Rattle.text.specs.Answers.Outcome.{model, refusal}
use Rattle.formula.specs.Nodes.{nodes_of}
use Rattle.formula.specs.Answers as formula
use Rattle.answer.specs.Answers.{answer_due, buffer_due}
use Rattle.answer.specs.declared.Unwritten.{Unwritten}
use Rattle.sheet.specs.declared.Sheet.{Sheet}
use Rattle.sheet.specs.Output.{Place}
use Rattle.sheet.specs.Output.Place.{here, past}

-- a refusal: its number, and zeros
abbrev pub refused_sheet : ℕ → Sheet
refused_sheet n = record { number = n; states = 0; nodes = 0; model = verdict 0 }

-- what judging S states and N nodes answered: 0 and the model's verdict, or the number of the refusal
abbrev pub sheet_of : ℕ → ℕ → Judged → Sheet
sheet_of S N (Ok v) = record { number = 0; states = S; nodes = N; model = v }
sheet_of S N (Err e) = refused_sheet (refusal.number_of e)

-- a model was judged into the verdict space
pub record ModelJudged (m : Model) (before after : List ℕ) (r : Sheet) : Type 0 where
  pub answer : Judged
  pub judging : Judging m before after answer
  pub sheet : r ≡ sheet_of m.states (node_count m.nodes) answer

-- by what the text comes to: a model is judged; a refusal is handed on, and the verdict space stays
abbrev pub Judges : Outcome → List ℕ → List ℕ → Sheet → Type 0
Judges (model m) before after r = ModelJudged m before after r
Judges (refusal n) before after r = (r ≡ refused_sheet n) × (after ≡ before)

-- `judge_text`: the number and the verdict, and the verdict space as judging leaves it
abbrev pub TextJudged : List ℕ → List ℕ → List ℕ → Sheet → Type 0
TextJudged text before after r = Judges (text_outcome text) before after r

-- a model with these nodes in place of its own
abbrev pub with_nodes : Model → List ℕ → Model
with_nodes m ns = as_model m.states m.atoms m.labels m.initial m.transitions ns

-- what there is to judge where a formula is asked of a model: the model with the formula's nodes, or the formula's refusal
abbrev pub asked_of : Model → formula.Outcome → Outcome
asked_of m (formula.Outcome.formula f) = model (with_nodes m (nodes_of f))
asked_of m (formula.Outcome.refusal e) = refusal (refusal.number_of e)

-- a formula's text was read, and judged on a model
pub record Asked (m : Model) (text before after : List ℕ) (r : Sheet) : Type 0 where
  pub read : formula.Outcome
  pub comes : formula.Reads text most_node_numbers read
  pub judged : Judges (asked_of m read) before after r

-- by what the model's text comes to: its own refusal is handed on before the formula is read
abbrev pub Asks : Outcome → List ℕ → List ℕ → List ℕ → Sheet → Type 0
Asks (model m) formula before after r = Asked m formula before after r
Asks (refusal n) formula before after r = (r ≡ refused_sheet n) × (after ≡ before)

-- `judge_formula`: as `judge_text` has it, with the formula's nodes in place of the model's own
abbrev pub FormulaJudged : List ℕ → List ℕ → List ℕ → List ℕ → Sheet → Type 0
FormulaJudged text formula before after r = Asks (text_outcome text) formula before after r

-- what a writer's answer says of a line that there is
abbrev pub line_of : Result ℕ Unwritten → Result (Option ℕ) Unwritten
line_of (Ok n) = Ok (Some n)
line_of (Err e) = Err e

-- the answer that is due, by the buffer's length: none behind the last line
abbrev pub said_at : Place → ℕ → Result (Option ℕ) Unwritten
said_at (here d) room = line_of (answer_due d room)
said_at past room = Ok None

-- and the buffer afterwards
abbrev pub buffer_at : Place → List ℕ → List ℕ
buffer_at (here d) before = buffer_due d before
buffer_at past before = before

-- `write_line`: the answer and the buffer are what is due
pub record LinePut (place : Place) (before after : List ℕ) (answer : Result (Option ℕ) Unwritten) : Type 0 where
  pub answers : answer ≡ said_at place (length before)
  pub buffer : after ≡ buffer_at place before
