-- What `read_model` promises: its answer and all four tables, for every text and all tables.
use Rattle.std.specs.Prelude.{ℕ, ◌≡◌, List, [], ◌∷◌, Bool, cond, ◌||◌, length, ltb, Result, Ok, Err}
use Rattle.lists.specs.Rows.{fill}
use Rattle.values.specs.Limits.{most_states, most_labels, most_transition_numbers, most_node_numbers, most_text}
use Rattle.kripke.specs.Transitions.{count}
use Rattle.model.specs.Model.{Model, node_count}
use Rattle.form.specs.Readers.{Reading}
use Rattle.form.specs.Readers.Reading.{found, ends, refused}
use Rattle.form.specs.Form.{model_text}
use Rattle.form.specs.Print.{print, Printable}
use Rattle.values.specs.Refusal.{answer_number}
use Rattle.values.specs.declared.refusal.Refusal.{Refusal}
use Rattle.text.specs.declared.Counts.{Counts}

-- the four tables that are lent
pub record Tables : Type 0 where
  pub labels : List ℕ
  pub initial : List ℕ
  pub transitions : List ℕ
  pub nodes : List ℕ

-- four lists as the four tables
abbrev pub tables : List ℕ → List ℕ → List ℕ → List ℕ → Tables
tables L I T N = record { labels = L; initial = I; transitions = T; nodes = N }

-- what reading comes to: a model, or the number of the refusal
pub data Outcome : Type 0 where
  model : Model → Outcome
  refusal : ℕ → Outcome

-- a text that ends too soon breaks the form
abbrev pub settled : Reading Model → Outcome
settled (found m s) = model m
settled ends = refusal 19
settled (refused n) = refusal n

-- a table of one of these lengths is too short for the largest model allowed
unfoldable pub too_short : ℕ → ℕ → ℕ → ℕ → Bool
too_short L I T N = ltb L most_labels || (ltb I most_states || (ltb T most_transition_numbers || ltb N most_node_numbers))

-- a lent table is
abbrev pub any_short : Tables → Bool
any_short lent = too_short (length lent.labels) (length lent.initial) (length lent.transitions) (length lent.nodes)

-- 18 comes first, and then the text is read in order
unfoldable pub text_outcome : List ℕ → Outcome
text_outcome text = cond (ltb most_text (length text)) (refusal 18) (settled (model_text text))

-- 24 comes before all others
unfoldable pub outcome : Tables → List ℕ → Outcome
outcome lent text = cond (any_short lent) (refusal 24) (text_outcome text)

-- the values of an answer: the counts of states, atoms, transitions and nodes
abbrev pub counts_of : Result Counts Refusal → List ℕ
counts_of (Ok c) = c.states ∷ c.atoms ∷ c.transitions ∷ c.nodes ∷ []
counts_of (Err e) = []

-- the number that is due, 0 for a model
abbrev pub number_due : Outcome → ℕ
number_due (model m) = 0
number_due (refusal n) = n

-- and the values
abbrev pub counts_due : Outcome → List ℕ
counts_due (model m) = m.states ∷ m.atoms ∷ count m.transitions ∷ node_count m.nodes ∷ []
counts_due (refusal n) = []

-- the tables afterwards: reading fills their fronts, and the rest stays; a refusal changes none
abbrev pub tables_due : Outcome → Tables → Tables
tables_due (model m) before =
    tables (fill m.labels before.labels) (fill m.initial before.initial) (fill m.transitions before.transitions) (fill m.nodes before.nodes)
tables_due (refusal n) before = before

-- the promise: the answer and every table are what is due, whatever was lent and whatever the text
pub record ModelRead (text : List ℕ) (before after : Tables) (answer : Result Counts Refusal) : Type 0 where
  pub number : answer_number answer ≡ number_due (outcome before text)
  pub counts : counts_of answer ≡ counts_due (outcome before text)
  pub lent : after ≡ tables_due (outcome before text) before

-- what an accepted text held: a printable model whose print it is, its counts in the answer and its tables in the fronts
pub record Accepted (text : List ℕ) (before after : Tables) (c : Counts) : Type 0 where
  pub held : Model
  pub printed : text ≡ print held
  pub printable : Printable held
  pub counts : counts_of (Ok c) ≡ counts_due (model held)
  pub lent : after ≡ tables_due (model held) before

-- the numbers of reading; it gives no other
abbrev pub refusals : List ℕ
refusals = 1 ∷ 2 ∷ 6 ∷ 10 ∷ 18 ∷ 19 ∷ 24 ∷ []

-- a number that reading gives: for some text, with some tables
pub record Occurs (n : ℕ) : Type 0 where
  pub text : List ℕ
  pub lent : Tables
  pub comes : outcome lent text ≡ refusal n
