-- What the calls of this crate answer, for every input.
use Rattle.std.specs.Prelude.{◌≡◌, ℕ, ◌-◌, ◌<◌, ◌≤◌, true, false, List, ◌++◌, Bool, Option, MatchOption, length, replicate, leb}
use Rattle.lists.specs.Rows.{fill_if}
use Rattle.values.specs.declared.limits.Limits.{Limits}
use Rattle.values.specs.declared.verdict.Verdict.{Verdict}
use Rattle.values.specs.declared.rows.Row.{Row}
use Rattle.values.specs.Values.{top}
use Rattle.values.specs.Limits.{most_states, most_atoms, most_transitions, most_nodes, most_text, most_formula, greatest_kind, most_labels, most_transition_numbers, most_node_numbers}
use Rattle.values.specs.Rows.{stored_row, row_values, no_row, most_verdicts}

-- `in_force`: the limits and the sizes that follow
unfoldable pub limits_in_force : Limits
limits_in_force =
    record {
      states = most_states;
      atoms = most_atoms;
      transitions = most_transitions;
      nodes = most_nodes;
      text = most_text;
      formula = most_formula;
      kind = greatest_kind;
      labels = most_labels;
      transition_numbers = most_transition_numbers;
      node_numbers = most_node_numbers;
      verdicts = most_verdicts;
    }

-- the verdict of a number
abbrev pub verdict : ℕ → Verdict
verdict n = record { 0 = n }

-- `Verdict::of`: the verdict of a number up to 2; any other number makes none
abbrev pub VerdictOf : ℕ → Option Verdict → Type 0
VerdictOf n made = MatchOption made (top < n) (λ v. (v.0 ≡ n) × (n ≤ top))

-- `read_row`: of a row of S states, at most the most, the value at each state and then zeros; of what is no row none
abbrev pub RowRead : ℕ → List ℕ → Option Row → Type 0
RowRead S stored read = MatchOption read (no_row S stored ≡ true) (λ row. (no_row S stored ≡ false) × (row.values ≡ row_values S stored ++ replicate (most_states - S) 0))

-- `store_row`: whether the space has room for the row, and the space afterwards
pub record RowStored (row before after : List ℕ) (stored : Bool) : Type 0 where
  pub answer : stored ≡ leb (length (stored_row row)) (length before)
  pub space : after ≡ fill_if (stored_row row) before
