-- When the tables of states and transitions are refused, the causes 1 and 6 to 9, and when two rows beside them are, the cause 14.
use Rattle.std.specs.Prelude.{ℕ, ◌-◌, ◌%◌, List, [], ◌∷◌, ◌++◌, Bool, not, ◌&&◌, ◌||◌, length, eqb, ltb, leb}
use Rattle.lists.specs.Entries.{is_nil, any_below}
use Rattle.lists.specs.Causes.{Cause, cause, refusal_of}
use Rattle.values.specs.Limits.{most_states, most_transition_numbers}
use Rattle.values.specs.Rows.{bad_row}
use Rattle.kripke.specs.Transitions.{count, from, to, comes_before, succs}

-- state count 0 or above the most
unfoldable pub bad_count : ℕ → Bool
bad_count S = eqb S 0 || ltb most_states S

-- transition list odd in length, empty, or above the most numbers
unfoldable pub bad_list : List ℕ → Bool
bad_list es = eqb (length es) 0 || (ltb most_transition_numbers (length es) || eqb (length es % 2) 1)

-- transition k has an end that is no state
abbrev pub leaves : ℕ → List ℕ → ℕ → Bool
leaves S es k = leb S (from es k) || leb S (to es k)

-- transition k stands behind one that does not come before it
abbrev pub falls : List ℕ → ℕ → Bool
falls es k = ltb 0 k && not (comes_before es (k - 1) k)

-- the cause of the state count
abbrev pub count_causes : ℕ → List Cause
count_causes S = cause 1 (bad_count S) ∷ []

-- the causes of the transitions, in the order of their numbers
abbrev pub transition_causes : ℕ → List ℕ → List Cause
transition_causes S es =
    cause 6 (bad_list es)
    ∷ cause 7 (any_below (leaves S es) (count es))
    ∷ cause 8 (any_below (falls es) (count es))
    ∷ cause 9 (any_below (λ (s : ℕ). is_nil (succs es s)) S)
    ∷ []

-- all of them
abbrev pub table_causes : ℕ → List ℕ → List Cause
table_causes S es = cause 1 (bad_count S) ∷ transition_causes S es

-- the lowest number that applies to the tables, or 0
unfoldable pub table_refusal : ℕ → List ℕ → ℕ
table_refusal S es = refusal_of (table_causes S es)

-- the causes of a question about two rows: these, and 14, a row not one value a state, or a value above 2
abbrev pub question_causes : ℕ → List ℕ → List ℕ → List ℕ → List Cause
question_causes S es left right = table_causes S es ++ (cause 14 (bad_row S left || bad_row S right) ∷ [])
