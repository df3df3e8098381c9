-- What the private functions of other crates have of what this one reads; no promise of a public call cites these.
use Rattle.std.specs.Prelude.{◌≡◌, ℕ, ◌≤◌, ◌<◌, List, false, length}
use Rattle.lists.specs.Entries.{at}
use Rattle.values.specs.Limits.{most_states}
use Rattle.values.specs.Rows.{bad_row, value_at}

-- a row that is one, read: its values at the front, in a space of the most states
pub record RowTaken (S : ℕ) (stored values : List ℕ) : Type 0 where
  pub few : S ≤ most_states
  pub fine : bad_row S stored ≡ false
  pub long : length values ≡ most_states
  pub here : (s : ℕ) → s < S → at values s ≡ value_at stored s
