-- The eleven starred nights as one list of cases under one statement, and beside them cases that a wrong reading of the rules would break.
use Rattle.std.specs.Prelude.{Ok, Err, ◌≡◌, ℕ, ◌≤◌, List, [], ◌∷◌, ◌++◌, length}
use Rattle.lists.specs.Entries.{All}
use Rattle.values.specs.Answers.{verdict}
use Rattle.values.specs.declared.refusal.Refusal.{Refusal}
use Rattle.values.specs.declared.refusal.Refusal.TheVariants.{Operand, UnnamedAtom}
use Rattle.values.specs.Rows.{row_begin, row_in, row_values, most_verdicts}
use Rattle.model.specs.Model.{Model, as_model, node_count}
use Rattle.ctl.specs.Answers.{Judged, Judging}
use Rattle.paths.specs.Questions.{Question, asked}
use Rattle.paths.specs.Runs.{Run}
use Rattle.answer.specs.Answers.{Due}
use Rattle.sheet.specs.declared.Sheet.{Sheet}
use Rattle.sheet.specs.Output.{output}
use Rattle.sheet.specs.Answers.{TextJudged}

-- lists one after the other
unfoldable pub joined : List (List ℕ) → List ℕ
joined [] = []
joined (x ∷ xs) = x ++ joined xs

-- the bytes of an answer's lines
unfoldable pub bytes_of : List Due → List ℕ
bytes_of [] = []
bytes_of (Due.line bytes ∷ ds) = bytes ++ bytes_of ds
bytes_of (Due.none ∷ ds) = bytes_of ds

-- a case: a text and its whole output; a model, one of its nodes and the row of it; a model and its verdict; a model and what
-- refuses it; a path question with a start, and all its paths in order
pub data Case : Type 0 where
  text : List ℕ → List ℕ → Case
  row : Model → ℕ → List ℕ → Case
  model : Model → ℕ → Case
  refused : Model → Refusal → Case
  path : Question → ℕ → List (List ℕ) → Case

-- what `judge` answers and leaves, lent any space that has room for the model's rows
abbrev pub Judges : Model → (List ℕ → Judged → Type 0) → Type 0
Judges m Says = (before after : List ℕ) (r : Judged) → row_begin m.states (node_count m.nodes) ≤ length before → Judging m before after r → Says after r

-- a text is judged in a space for the largest model; a path case holds of whole runs, in any space with as many entries as there are states
abbrev pub Holds : Case → Type 0
Holds (text input out) = (before after : List ℕ) (r : Sheet) → most_verdicts ≤ length before → TextJudged input before after r → bytes_of (output r after) ≡ out
Holds (row m k values) = Judges m (λ after r. ((e : Refusal) → r ≡ Err e → ⊥) × (row_values m.states (row_in m.states after k) ≡ values))
Holds (model m v) = Judges m (λ after r. r ≡ Ok (verdict v))
Holds (refused m e) = Judges m (λ after r. r ≡ Err e)
Holds (path q start ps) = (space : List ℕ) → q.states ≤ length space → Run q start space ps

-- the printed input of case 1
abbrev pub input : List ℕ
input =
    joined
    ((115 ∷ 116 ∷ 97 ∷ 116 ∷ 101 ∷ 115 ∷ 61 ∷ 50 ∷ 10 ∷ [])
    ∷ (97 ∷ 116 ∷ 111 ∷ 109 ∷ 115 ∷ 61 ∷ 49 ∷ 10 ∷ [])
    ∷ (105 ∷ 110 ∷ 105 ∷ 116 ∷ 61 ∷ 49 ∷ 48 ∷ 10 ∷ [])
    ∷ (108 ∷ 97 ∷ 98 ∷ 101 ∷ 108 ∷ 61 ∷ 85 ∷ 10 ∷ [])
    ∷ (108 ∷ 97 ∷ 98 ∷ 101 ∷ 108 ∷ 61 ∷ 84 ∷ 10 ∷ [])
    ∷ (101 ∷ 100 ∷ 103 ∷ 101 ∷ 115 ∷ 61 ∷ 50 ∷ 10 ∷ [])
    ∷ (101 ∷ 100 ∷ 103 ∷ 101 ∷ 61 ∷ 48 ∷ 44 ∷ 49 ∷ 10 ∷ [])
    ∷ (101 ∷ 100 ∷ 103 ∷ 101 ∷ 61 ∷ 49 ∷ 44 ∷ 49 ∷ 10 ∷ [])
    ∷ (110 ∷ 111 ∷ 100 ∷ 101 ∷ 115 ∷ 61 ∷ 51 ∷ 10 ∷ [])
    ∷ (110 ∷ 111 ∷ 100 ∷ 101 ∷ 61 ∷ 49 ∷ 44 ∷ 48 ∷ 44 ∷ 48 ∷ 10 ∷ [])
    ∷ (110 ∷ 111 ∷ 100 ∷ 101 ∷ 61 ∷ 52 ∷ 44 ∷ 48 ∷ 44 ∷ 48 ∷ 10 ∷ [])
    ∷ (110 ∷ 111 ∷ 100 ∷ 101 ∷ 61 ∷ 50 ∷ 44 ∷ 48 ∷ 44 ∷ 48 ∷ 10 ∷ [])
    ∷ [])

-- and its printed output
abbrev pub printed : List ℕ
printed =
    joined
    ((97 ∷ 110 ∷ 115 ∷ 119 ∷ 101 ∷ 114 ∷ 61 ∷ 48 ∷ 10 ∷ [])
    ∷ (114 ∷ 111 ∷ 119 ∷ 61 ∷ 85 ∷ 84 ∷ 10 ∷ [])
    ∷ (114 ∷ 111 ∷ 119 ∷ 61 ∷ 84 ∷ 84 ∷ 10 ∷ [])
    ∷ (114 ∷ 111 ∷ 119 ∷ 61 ∷ 85 ∷ 70 ∷ 10 ∷ [])
    ∷ (109 ∷ 111 ∷ 100 ∷ 101 ∷ 108 ∷ 61 ∷ 85 ∷ 10 ∷ [])
    ∷ [])

-- case 2: one state, self-loop; p, not p, p and not p, and not that
abbrev pub doubted : ℕ → Model
doubted p = as_model 1 1 (p ∷ []) (1 ∷ []) (0 ∷ 0 ∷ []) (1 ∷ 0 ∷ 0 ∷ 2 ∷ 0 ∷ 0 ∷ 3 ∷ 0 ∷ 1 ∷ 2 ∷ 2 ∷ 0 ∷ [])

-- cases 3 and 4: 0→0, 0→1, 1→1; left true everywhere, right of this value at 0 and true at 1; E is node 2, A node 3
abbrev pub waiting : ℕ → Model
waiting right = as_model 2 1 (right ∷ 2 ∷ []) (1 ∷ 0 ∷ []) (0 ∷ 0 ∷ 0 ∷ 1 ∷ 1 ∷ 1 ∷ []) (0 ∷ 0 ∷ 0 ∷ 1 ∷ 0 ∷ 0 ∷ 5 ∷ 0 ∷ 1 ∷ 6 ∷ 0 ∷ 1 ∷ [])

-- cases 5 and 6: left and right as labels, these transitions; E is node 2, A node 3
abbrev pub labelled : List ℕ → List ℕ → Model
labelled labels es = as_model 2 2 labels (1 ∷ 0 ∷ []) es (1 ∷ 0 ∷ 0 ∷ 1 ∷ 1 ∷ 0 ∷ 5 ∷ 0 ∷ 1 ∷ 6 ∷ 0 ∷ 1 ∷ [])

-- cases 7 to 10: left true at 0, of this value at 1, true at 2, false at 3; right false at 0, 1, 2 and of this value at 3
abbrev pub diamond : ℕ → ℕ → ℕ → Question
diamond left right level = asked 4 (0 ∷ 1 ∷ 0 ∷ 2 ∷ 1 ∷ 3 ∷ 2 ∷ 3 ∷ 3 ∷ 3 ∷ []) (2 ∷ left ∷ 2 ∷ 0 ∷ []) (0 ∷ 0 ∷ 0 ∷ right ∷ []) level

-- case 13: two initial states in a ring, with these labels
abbrev pub two_initial : List ℕ → Model
two_initial labels = as_model 2 1 labels (1 ∷ 1 ∷ []) (0 ∷ 1 ∷ 1 ∷ 0 ∷ []) (1 ∷ 0 ∷ 0 ∷ [])

-- the nights, by their numbers
abbrev pub starred : List Case
starred =
    -- 1: the text
    text input printed
    -- 2: not(p and not p) of an unknown p is unknown, though true in both completions
    ∷ row (doubted 1) 3 (1 ∷ [])
    ∷ row (doubted 0) 3 (2 ∷ [])
    ∷ row (doubted 2) 3 (2 ∷ [])
    -- 3: right false at 0: E true, A false at 0
    ∷ row (waiting 0) 2 (2 ∷ 2 ∷ [])
    ∷ row (waiting 0) 3 (0 ∷ 2 ∷ [])
    -- 4: right unknown at 0: E true, A unknown
    ∷ row (waiting 1) 2 (2 ∷ 2 ∷ [])
    ∷ row (waiting 1) 3 (1 ∷ 2 ∷ [])
    -- 5: left unknown at 0, right false, true: E and A unknown at 0
    ∷ row (labelled (1 ∷ 0 ∷ 0 ∷ 2 ∷ []) (0 ∷ 1 ∷ 1 ∷ 1 ∷ [])) 2 (1 ∷ 2 ∷ [])
    ∷ row (labelled (1 ∷ 0 ∷ 0 ∷ 2 ∷ []) (0 ∷ 1 ∷ 1 ∷ 1 ∷ [])) 3 (1 ∷ 2 ∷ [])
    -- 6: left true at 0 only, right true at 1 only: E true at 0
    ∷ row (labelled (2 ∷ 0 ∷ 0 ∷ 2 ∷ []) (0 ∷ 1 ∷ 1 ∷ 0 ∷ [])) 2 (2 ∷ 2 ∷ [])
    -- 7: both paths, then end
    ∷ path (diamond 2 2 2) 0 ((0 ∷ 1 ∷ 3 ∷ []) ∷ (0 ∷ 2 ∷ 3 ∷ []) ∷ [])
    -- 8: left unknown at 1: level 2 gives one path, level 1 both
    ∷ path (diamond 1 2 2) 0 ((0 ∷ 2 ∷ 3 ∷ []) ∷ [])
    ∷ path (diamond 1 2 1) 0 ((0 ∷ 1 ∷ 3 ∷ []) ∷ (0 ∷ 2 ∷ 3 ∷ []) ∷ [])
    -- 9: start 3
    ∷ path (diamond 2 2 2) 3 ((3 ∷ []) ∷ [])
    -- 10: right false everywhere: none
    ∷ path (diamond 2 0 2) 0 []
    -- 13: one initial state false and one unknown: the model is false
    ∷ model (two_initial (0 ∷ 1 ∷ [])) 0
    ∷ model (two_initial (1 ∷ 0 ∷ [])) 0
    ∷ []

-- every one of them holds
abbrev pub Nights : Type 0
Nights = All Holds starred

-- a fork: 0→1, 0→2, 1→1, 2→2; p true at 1 alone; p and EX p
abbrev pub fork : Model
fork = as_model 3 1 (0 ∷ 2 ∷ 0 ∷ []) (1 ∷ 0 ∷ 0 ∷ []) (0 ∷ 1 ∷ 0 ∷ 2 ∷ 1 ∷ 1 ∷ 2 ∷ 2 ∷ []) (1 ∷ 0 ∷ 0 ∷ 4 ∷ 0 ∷ 0 ∷ [])

-- two states in a ring, two atoms: p0 true at 0 and unknown at 1, p1 false at both
abbrev pub slanted : Model
slanted = as_model 2 2 (2 ∷ 0 ∷ 1 ∷ 0 ∷ []) (1 ∷ 0 ∷ []) (0 ∷ 1 ∷ 1 ∷ 0 ∷ []) (1 ∷ 0 ∷ 0 ∷ 1 ∷ 1 ∷ 0 ∷ [])

-- one state, p true, and then one node more
abbrev pub last_node : List ℕ → Model
last_node node = as_model 1 1 (2 ∷ []) (1 ∷ []) (0 ∷ 0 ∷ []) (1 ∷ 0 ∷ 0 ∷ [] ++ node)

-- one state, both atoms true, the first one's node and then these
abbrev pub after_first : List ℕ → Model
after_first nodes = as_model 1 2 (2 ∷ 2 ∷ []) (1 ∷ []) (0 ∷ 0 ∷ []) (1 ∷ 0 ∷ 0 ∷ [] ++ nodes)

-- what a wrong reading would get wrong
abbrev pub beside : List Case
beside =
    -- EX asks for some successor, not for all
    row fork 1 (2 ∷ 2 ∷ 0 ∷ [])
    -- labels stand state by state, atom by atom
    ∷ row slanted 0 (2 ∷ 1 ∷ [])
    ∷ row slanted 1 (0 ∷ 0 ∷ [])
    -- every initial state counts
    ∷ model (two_initial (2 ∷ 1 ∷ [])) 1
    ∷ model (two_initial (1 ∷ 2 ∷ [])) 1
    ∷ model (two_initial (0 ∷ 2 ∷ [])) 0
    ∷ model (two_initial (2 ∷ 0 ∷ [])) 0
    -- the model's verdict is the last node's
    ∷ model (last_node (2 ∷ 0 ∷ 0 ∷ [])) 0
    -- an unused number is 0
    ∷ refused (last_node (2 ∷ 0 ∷ 1 ∷ [])) Operand
    ∷ refused (last_node (4 ∷ 0 ∷ 1 ∷ [])) Operand
    ∷ refused (last_node (0 ∷ 1 ∷ 0 ∷ [])) Operand
    ∷ refused (last_node (1 ∷ 0 ∷ 1 ∷ [])) Operand
    -- every atom is named by a node of its kind, and a not of node 1 doesn't name atom 1
    ∷ refused (after_first []) UnnamedAtom
    ∷ refused (after_first (0 ∷ 0 ∷ 0 ∷ 2 ∷ 1 ∷ 0 ∷ [])) UnnamedAtom
    ∷ model (after_first (1 ∷ 1 ∷ 0 ∷ [])) 2
    ∷ []

-- holds as well
abbrev pub Beside : Type 0
Beside = All Holds beside
