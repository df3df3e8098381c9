-- What the functions below `write_line` answer.
use Rattle.std.specs.Prelude.{ℕ, ◌≤◌, ◌≡◌, List, length, take, drop}

-- r entries are the first n of a space, or all where there are fewer
pub record Front (n : ℕ) (space : List ℕ) (r : ℕ) : Type 0 where
  pub within : r ≤ length space
  pub front : take r space ≡ take n space
  pub rest : drop r space ≡ drop n space
