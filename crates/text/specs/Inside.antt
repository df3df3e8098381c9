-- What the private functions answer one another: the value and what is left of the text, that the text ends, or a refusal.
use Rattle.std.specs.Prelude.{ℕ, ◌*◌, ◌≤◌, ◌≡◌, List, [], ◌∷◌, take, drop, Result, Ok, Err}
use Rattle.lists.specs.Entries.{at}
use Rattle.lists.specs.Rows.{laid}
use Rattle.values.specs.Limits.{most_states, most_atoms, most_labels, most_transitions, most_transition_numbers, most_nodes, most_node_numbers}
use Rattle.values.specs.Signs.{letters}
use Rattle.model.specs.Model.{Model, as_model}
use Rattle.form.specs.Readers.{Reading, Reader, valued, ◌>>=◌, give, count_line, row_line, lines, end}
use Rattle.form.specs.Readers.Reading.{found, ends, refused}
use Rattle.form.specs.Form.{key_states, key_atoms, key_init, key_label, key_edges, key_edge, key_nodes, key_node, bits, listed, model_text}
use Rattle.text.specs.Answers.{Outcome, settled, counts_of}
use Rattle.text.specs.Answers.Outcome.{model, refusal}
use Rattle.values.specs.Refusal.{number_of}
use Rattle.values.specs.declared.refusal.Refusal.{Refusal}
use Rattle.values.specs.declared.refusal.Refusal.TheVariants.{TextForm}
use Rattle.text.specs.declared.Counts.{Counts}
use Rattle.text.specs.declared.tables.Held.{Held}
use Rattle.text.specs.declared.cursor.Cursor.{Cursor}
use Rattle.text.specs.declared.cursor.Line.{Line}
use Rattle.text.specs.declared.cursor.Line.TheVariants as line

-- the reading that an answer tells of, its value by the two numbers that it carries
abbrev pub told : {A : Type 0} → (ℕ → ℕ → A) → List ℕ → Line → Reading A
told value text (line.Read x y c) = found (value x y) (drop c.at text)
told value text line.Ends = ends
told value text (line.Refused e) = refused (number_of e)

-- these two numbers
abbrev pub carried : Line → List ℕ
carried (line.Read x y c) = x ∷ y ∷ []
carried line.Ends = []
carried (line.Refused e) = []

-- a line, or a part of one, that carries no number
abbrev pub nothing : ℕ → ℕ → Unit {0}
nothing x y = tt

-- or one
abbrev pub first : ℕ → ℕ → ℕ
first x y = x

-- a reading without its value
abbrev pub bare : {A : Type 0} → Reading A → Reading (Unit {0})
bare o = valued (λ a. tt) o

-- the table after a line: what it holds is laid into it once the line is accepted
abbrev pub after : Reading (List ℕ) → ℕ → List ℕ → List ℕ
after (found xs s) to before = laid to xs before
after ends to before = before
after (refused n) to before = before

-- a line that was read, or not, and its table
pub record LineRead (o : Reading (List ℕ)) (text : List ℕ) (to : ℕ) (before now : List ℕ) (answer : Line) : Type 0 where
  pub says : told nothing text answer ≡ bare o
  pub table : now ≡ after o to before

-- lines that were read, their values in the front of the table and the rest as it was
pub record LinesRead (o : Reading (List ℕ)) (text : List ℕ) (n : ℕ) (before now : List ℕ) (answer : Line) : Type 0 where
  pub says : told (λ x y. take n now) text answer ≡ o
  pub rest : drop n now ≡ drop n before

-- a model but for its two lists
abbrev pub Unlisted : Type 0
Unlisted = List ℕ → List ℕ → Model

-- the form in parts: init and one label line a state
unfoldable pub rows_text : ℕ → ℕ → Reader Unlisted
rows_text S A = do
  I ← row_line key_init bits S
  L ← lines (row_line key_label letters A) S
  give (as_model S A L I)

-- states, atoms, and these rows
unfoldable pub labelled_text : Reader Unlisted
labelled_text = do
  S ← count_line key_states 1 most_states 1
  A ← count_line key_atoms 0 most_atoms 2
  rows_text S A

-- edges, nodes, and nothing after the last line
unfoldable pub lists_text : Unlisted → Reader Model
lists_text m = do
  es ← listed key_edges key_edge 2 most_transitions 6
  ns ← listed key_nodes key_node 3 most_nodes 10
  _ ← end
  give (m es ns)

-- the states, by two counts, with what each is in the fronts of two tables
abbrev pub labelled_in : List ℕ → List ℕ → ℕ → ℕ → Unlisted
labelled_in labels initial x y = as_model x y (take (y * x) labels) (take x initial)

-- lines of w numbers, by their count, in the front of a table
abbrev pub listed_in : ℕ → List ℕ → ℕ → ℕ → List ℕ
listed_in w table x y = take (w * x) table

-- a model whose lists stand in the fronts of two tables
abbrev pub lists_in : Unlisted → List ℕ → List ℕ → ℕ → ℕ → Model
lists_in m transitions nodes x y = m (listed_in 2 transitions x 0) (listed_in 3 nodes y 0)

-- a list that was read: it stands in the front of its table, and its count is within the limit
pub record ListRead (o : Reading (List ℕ)) (text : List ℕ) (w most : ℕ) (now : List ℕ) (answer : Line) : Type 0 where
  pub says : told (listed_in w now) text answer ≡ o
  pub few : at (carried answer) 0 ≤ most

-- both lists, of any model
pub record ListsRead (text left T N : List ℕ) (answer : Line) : Type 0 where
  pub says : (m : Unlisted) → told (lists_in m T N) text answer ≡ lists_text m left
  pub edges : at (carried answer) 0 ≤ most_transitions
  pub nodes : at (carried answer) 1 ≤ most_nodes

-- what an answer carries, or why it was not read: a text that ends too soon breaks the form
abbrev pub taken : Line → Result (ℕ × ℕ × Cursor) Refusal
taken (line.Read x y c) = Ok (x, y, c)
taken line.Ends = Err TextForm
taken (line.Refused e) = Err e

-- what an answer comes to, its model in the fronts of the tables
abbrev pub outcome_in : Held → Result Counts Refusal → Outcome
outcome_in h (Ok c) = model (lists_in (labelled_in h.labels h.initial c.states c.atoms) h.transitions h.nodes c.transitions c.nodes)
outcome_in h (Err e) = refusal (number_of e)

-- the counts of a model that the tables hold
pub record Few (c : Counts) : Type 0 where
  pub states : c.states ≤ most_states
  pub labels : c.atoms * c.states ≤ most_labels
  pub transitions : c.transitions ≤ most_transitions
  pub nodes : c.nodes ≤ most_nodes

-- tables of these lengths hold the largest model
pub record Enough (L I T N : ℕ) : Type 0 where
  pub labels : most_labels ≤ L
  pub initial : most_states ≤ I
  pub transitions : most_transition_numbers ≤ T
  pub nodes : most_node_numbers ≤ N

-- the whole text was read: its model stands in the fronts of the tables, and the counts of its lists are within the limits
pub record TextRead (text : List ℕ) (h : Held) (answer : Result Counts Refusal) : Type 0 where
  pub says : outcome_in h answer ≡ settled (model_text text)
  pub edges : at (counts_of answer) 2 ≤ most_transitions
  pub nodes : at (counts_of answer) 3 ≤ most_nodes
