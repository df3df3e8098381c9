-- A model: a graph of states with labels, some of them unknown, and the formulas that are asked of it.
use Rattle.std.specs.Prelude.{◌≡◌, ℕ, ◌+◌, ◌*◌, ◌/◌, ◌<◌, List, length}
use Rattle.lists.specs.Entries.{at}

-- the tables as they are lent: labels state by state, atom by atom; transitions from, to, from, to, ..; nodes of three numbers
pub record Model : Type 0 where
  pub states : ℕ
  pub atoms : ℕ
  pub labels : List ℕ
  pub initial : List ℕ
  pub transitions : List ℕ
  pub nodes : List ℕ

abbrev pub as_model : ℕ → ℕ → List ℕ → List ℕ → List ℕ → List ℕ → Model
as_model S A labels initial es ns = record { states = S; atoms = A; labels = labels; initial = initial; transitions = es; nodes = ns }

-- s is an initial state of S states with this initial list
pub record Initial (S : ℕ) (initial : List ℕ) (s : ℕ) : Type 0 where
  pub state : s < S
  pub entry : at initial s ≡ 1

-- how many nodes there are, and the numbers of node i
abbrev pub node_count : List ℕ → ℕ
node_count ns = length ns / 3

abbrev pub kind_at : List ℕ → ℕ → ℕ
kind_at ns i = at ns (3 * i)

abbrev pub left_at : List ℕ → ℕ → ℕ
left_at ns i = at ns (3 * i + 1)

abbrev pub right_at : List ℕ → ℕ → ℕ
right_at ns i = at ns (3 * i + 2)
