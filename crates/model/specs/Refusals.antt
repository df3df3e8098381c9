-- When a model is refused: the causes 1 to 13, and 22.
use Rattle.std.specs.Prelude.{ℕ, ◌*◌, ◌%◌, List, [], ◌∷◌, ◌++◌, Bool, not, ◌||◌, ◌&&◌, length, eqb, ltb}
use Rattle.lists.specs.Entries.{at, any_below}
use Rattle.lists.specs.Causes.{Cause, cause, refusal_of}
use Rattle.values.specs.Values.{top}
use Rattle.values.specs.Limits.{most_atoms, most_node_numbers, greatest_kind}
use Rattle.values.specs.Rows.{some_above, row_begin}
use Rattle.kripke.specs.Refusals.{bad_count, transition_causes}
use Rattle.model.specs.Model.{Model, node_count, kind_at, left_at, right_at}
use Rattle.model.specs.Kinds.{kind_of, uses, bound}

-- initial list of another length than the states, an entry above 1, or no 1
unfoldable pub bad_initial : ℕ → List ℕ → Bool
bad_initial S initial = not (eqb (length initial) S) || (some_above initial 1 || not (any_below (λ (s : ℕ). eqb (at initial s) 1) (length initial)))

-- node list empty, above the most numbers, or not a multiple of 3
unfoldable pub bad_nodes : List ℕ → Bool
bad_nodes ns = eqb (length ns) 0 || (ltb most_node_numbers (length ns) || not (eqb (length ns % 3) 0))

-- node i has an operand that is not earlier, an atom that is none, or an unused number that is not 0
abbrev pub bad_operand : ℕ → List ℕ → ℕ → Bool
bad_operand A ns i = not (ltb (left_at ns i) (bound (uses (kind_of (kind_at ns i))).0 A i)) || not (ltb (right_at ns i) (bound (uses (kind_of (kind_at ns i))).1 A i))

-- node i names atom a: it is of kind 1, an atom, and its left number is a
unfoldable pub names : List ℕ → ℕ → ℕ → Bool
names ns a i = eqb (kind_at ns i) 1 && eqb (left_at ns i) a

-- no node names atom a
abbrev pub unnamed : List ℕ → ℕ → Bool
unnamed ns a = not (any_below (names ns a) (node_count ns))

-- 2 to 5
abbrev pub label_causes : ℕ → ℕ → List ℕ → List ℕ → List Cause
label_causes S A labels initial =
    cause 2 (ltb most_atoms A)
    ∷ cause 3 (not (eqb (length labels) (S * A)))
    ∷ cause 4 (some_above labels top)
    ∷ cause 5 (bad_initial S initial)
    ∷ []

-- 10 to 13 and 22, for a verdict space of so many bytes
abbrev pub node_causes : ℕ → ℕ → List ℕ → ℕ → List Cause
node_causes S A ns room =
    cause 10 (bad_nodes ns)
    ∷ cause 11 (any_below (λ (i : ℕ). ltb greatest_kind (kind_at ns i)) (node_count ns))
    ∷ cause 12 (any_below (bad_operand A ns) (node_count ns))
    ∷ cause 13 (ltb room (row_begin S (node_count ns)))
    ∷ cause 22 (any_below (unnamed ns) A)
    ∷ []

-- all of them, in the order of their numbers
abbrev pub judge_causes : Model → ℕ → List Cause
judge_causes m room =
    cause 1 (bad_count m.states)
    ∷ label_causes m.states m.atoms m.labels m.initial
    ++ (transition_causes m.states m.transitions ++ node_causes m.states m.atoms m.nodes room)

-- the lowest number that applies to judging a model into a space of so many bytes, or 0
unfoldable pub judge_refusal : Model → ℕ → ℕ
judge_refusal m room = refusal_of (judge_causes m room)
