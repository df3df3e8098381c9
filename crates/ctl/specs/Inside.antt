-- What the private functions ask of one another; no promise of a public call cites these.
use Rattle.std.specs.Prelude.{◌≡◌, ℕ, ◌+◌, ◌*◌, ◌-◌, ◌<◌, ◌≤◌, List, [], Bool, cond, false, length, ltb}
use Rattle.lists.specs.Entries.{Some, at}
use Rattle.lists.specs.Rows.{Filled, fill, laid}
use Rattle.values.specs.Answers.{verdict}
use Rattle.values.specs.declared.verdict.Verdict.{Verdict}
use Rattle.values.specs.Limits.{most_states}
use Rattle.values.specs.Values.{top}
use Rattle.values.specs.Rows.{row_size, row_begin, row_in, row_values, stored_row, bad_row}
use Rattle.kripke.specs.Until.{next, step}
use Rattle.kripke.specs.Inside.{Ready}
use Rattle.model.specs.Model.{Model, as_model, node_count, kind_at, left_at, right_at}
use Rattle.model.specs.Kinds.{kind_of}
use Rattle.model.specs.Inside.{AtomFits, NodesFit}
use Rattle.ctl.specs.Nodes.{node_row}
use Rattle.ctl.specs.Rows.{initial_states, rows_from, stored_rows}

-- what a node's row goes by: a model without its initial list and its nodes
abbrev pub structure_of : ℕ → ℕ → List ℕ → List ℕ → Model
structure_of S A labels es = as_model S A labels [] es []

-- one step back from a row
unfoldable pub stepped : Bool → List ℕ → List ℕ → List ℕ → List ℕ → ℕ → ℕ
stepped all es L R row s = step (at L s) (at R s) (next all es row s)

-- the row of an operand below i, and no row for any other number
unfoldable pub operand_row : ℕ → List ℕ → ℕ → ℕ → List ℕ
operand_row S space i k = cond (ltb k i) (row_values S (row_in S space k)) []

-- a space in which each row below i is a row of S values
pub record RowsFit (S i : ℕ) (space : List ℕ) : Type 0 where
  pub few : S ≤ most_states
  pub within : row_begin S i ≤ length space
  pub stand : (k : ℕ) → k < i → bad_row S (row_in S space k) ≡ false

-- the values of an operand's row, each in its place
abbrev pub OperandRead : ℕ → List ℕ → ℕ → ℕ → List ℕ → Type 0
OperandRead S space i k values = (s : ℕ) → at values s ≡ at (operand_row S space i k) s

-- a model that judging works on: its tables, as many labels as states times atoms, each at most 2
pub record Judgeable (m : Model) (begins : List ℕ) : Type 0 where
  pub tables : Ready m.states m.transitions begins
  pub labelled : length m.labels ≡ m.states * m.atoms
  pub small : (i : ℕ) → at m.labels i ≤ top

-- node i can be judged into a space that holds the rows before it and has room for its own
pub record NodeReady (m : Model) (ns : List ℕ) (i : ℕ) (space : List ℕ) : Type 0 where
  pub listed : i < node_count ns
  pub atom : AtomFits m.atoms (kind_at ns i) (left_at ns i)
  pub rows : RowsFit m.states i space
  pub room : row_begin m.states i + row_size m.states ≤ length space

-- at each of S states a value that R says of both rows' values there, and the rest as it was
pub record Made (R : Verdict → Verdict → Verdict → Type 0) (S : ℕ) (left right before after : List ℕ) : Type 0 where
  pub each : (s : ℕ) → s < S → R (verdict (at left s)) (verdict (at right s)) (verdict (at after s))
  pub rest : Filled (at after) S before after

-- the row of node i, from the rows that stand in the space
unfoldable pub node_row_at : Model → List ℕ → List ℕ → ℕ → List ℕ
node_row_at m ns space i = node_row m (kind_of (kind_at ns i)) (left_at ns i) (operand_row m.states space i (left_at ns i)) (operand_row m.states space i (right_at ns i))

-- `put_row`: a row becomes row i of a space
abbrev pub RowPut : ℕ → ℕ → List ℕ → List ℕ → List ℕ → Type 0
RowPut S i row before after = after ≡ laid (row_begin S i) (stored_row row) before

-- `put_node`: so does the row of node i
abbrev pub NodePut : Model → List ℕ → ℕ → List ℕ → List ℕ → Type 0
NodePut m ns i before after = RowPut m.states i (node_row_at m ns before i) before after

-- all nodes can be judged into a space that has room for their rows
pub record RowsReady (m : Model) (ns space : List ℕ) : Type 0 where
  pub nodes : NodesFit m.atoms ns
  pub room : row_begin m.states (node_count ns) ≤ length space

-- `put_rows`: their rows fill the front of the space
abbrev pub RowsPut : Model → List ℕ → List ℕ → List ℕ → Type 0
RowsPut m ns before after = after ≡ fill (stored_rows (rows_from m [] ns)) before

-- the row of the last of n nodes in a space
abbrev pub last_row : ℕ → ℕ → List ℕ → List ℕ
last_row S n space = operand_row S space n (n - 1)

-- the rows of n nodes stand in a space, and some state is initial
pub record LastReady (S n : ℕ) (initial space : List ℕ) : Type 0 where
  pub rows : RowsFit S n space
  pub last : 0 < n
  pub listed : S ≤ length initial
  pub some : Some (initial_states S initial)

-- a row of values up to 2, one a state, of which some are initial
pub record InitialRow (S : ℕ) (initial row : List ℕ) : Type 0 where
  pub listed : S ≤ length initial
  pub some : Some (initial_states S initial)
  pub room : S ≤ length row
  pub small : (s : ℕ) → s < S → at row s ≤ top
