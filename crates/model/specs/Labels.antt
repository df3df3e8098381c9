-- Labels, and two models that differ in their labels alone.
use Rattle.std.specs.Prelude.{◌≡◌, ℕ, ◌*◌, ◌<◌, ◌≤◌, List, Bool, cond, ◌⊎◌, length, eqb}
use Rattle.lists.specs.Entries.{at}
use Rattle.lists.specs.Rows.{tab}
use Rattle.values.specs.Values.{top}
use Rattle.model.specs.Model.{Model, as_model}

-- how many labels there are: one for each state and atom
abbrev pub label_count : Model → ℕ
label_count m = m.states * m.atoms

-- labels as they should be: one for each state and atom, each at most 2
pub record Labels (m : Model) : Type 0 where
  pub size : length m.labels ≡ label_count m
  pub small : (i : ℕ) → i < label_count m → at m.labels i ≤ top

-- the same model with other labels
abbrev pub with_labels : Model → List ℕ → Model
with_labels m labels = as_model m.states m.atoms labels m.initial m.transitions m.nodes

-- m' is m with some unknown labels settled and the rest left
pub record Settled (m m' : Model) : Type 0 where
  pub first : Labels m
  pub second : Labels m'
  pub kept : m' ≡ with_labels m m'.labels
  pub settles : (i : ℕ) → i < label_count m → (at m.labels i ≡ 1) ⊎ (at m.labels i ≡ at m'.labels i)

-- a completion changes each label 1 into 0 or 2 and nothing else
pub record Completion (m m' : Model) : Type 0 where
  pub first : Labels m
  pub kept : m' ≡ with_labels m m'.labels
  pub size : length m'.labels ≡ label_count m
  pub unknown : (i : ℕ) → i < label_count m → at m.labels i ≡ 1 → (at m'.labels i ≡ 0) ⊎ (at m'.labels i ≡ 2)
  pub other : (i : ℕ) → i < label_count m → (at m.labels i ≡ 1 → ⊥) → at m'.labels i ≡ at m.labels i

-- each unknown label by a choice of yes or no, the rest as they are
unfoldable pub filled_in : Model → (ℕ → Bool) → ℕ → ℕ
filled_in m chosen i = cond (eqb (at m.labels i) 1) (cond (chosen i) 2 0) (at m.labels i)

-- the model so completed
abbrev pub completed : Model → (ℕ → Bool) → Model
completed m chosen = with_labels m (tab (filled_in m chosen) (label_count m))
