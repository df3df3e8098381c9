-- What tables have that are not refused, for the private functions of this crate and of those above; no promise of a public call cites these.
use denote.Struct.Props.{props}
use Rattle.std.specs.Coded.{×_prop, Unit-prop, le_prop}
use Rattle.std.specs.Prelude.{◌≡◌, ℕ, ◌+◌, ◌-◌, ◌<◌, ◌≤◌, List, [], ◌∷◌, length}
use Rattle.lists.specs.Causes.{Cause, cause}
use Rattle.lists.specs.Entries.{All, Some, any_below, at, is_nil}
use Rattle.values.specs.Limits.{most_states, most_transitions}
use Rattle.values.specs.Inside.{RowTaken}
use Rattle.kripke.specs.declared.tables.Tables.{Tables}
use Rattle.kripke.specs.Refusals.{bad_count, bad_list, falls, leaves}
use Rattle.kripke.specs.Transitions.{Graph, count, ends, succs}

-- a graph within the limits
pub record Accepted (S : ℕ) (es : List ℕ) : Type 0 where
  pub some : 0 < S
  pub few : S ≤ most_states
  pub short : count es ≤ most_transitions
  pub graph : Graph S es

-- begins says for each state where its transitions begin; they end where those of the next state begin
pub record Begun (S : ℕ) (es begins : List ℕ) : Type 0 where
  pub room : S < length begins
  pub rises : (s : ℕ) → s < S → at begins s < at begins (s + 1)
  pub within : (s : ℕ) → s ≤ S → at begins s ≤ count es
  pub lists : (s : ℕ) → s < S → succs es s ≡ ends es (at begins s) (at begins (s + 1) - at begins s)

-- a graph within the limits, with its beginnings
pub record Ready (S : ℕ) (es begins : List ℕ) : Type 0 where
  pub accepted : Accepted S es
  pub begun : Begun S es begins

-- there is one proof of it at most, as a ghost field asks
ends_prop : (S : ℕ) (es : List ℕ) → IsProp (All (λ (t : ℕ). t < S) es)
ends_prop S [] = Unit-prop
ends_prop S (x ∷ xs) = ×_prop le_prop (ends_prop S xs)

some_prop : (xs : List ℕ) → IsProp (Some xs)
some_prop [] = λ x y. absurd x
some_prop (x ∷ xs) = Unit-prop

pub Ready-prop : (S : ℕ) (es begins : List ℕ) → IsProp (Ready S es begins)
Ready-prop S es begins = Prim.hlevel (ends_prop, some_prop, props)

-- what is read of a question's tables that are not refused
pub record Taken (S : ℕ) (es left right : List ℕ) (t : Tables) : Type 0 where
  pub ready : Ready S es t.begins
  pub left_row : RowTaken S left t.left
  pub right_row : RowTaken S right t.right

-- the causes in the parts in which they are tried: 1; 6; 7 and 8; and 9
abbrev pub list_causes : List ℕ → List Cause
list_causes es = cause 6 (bad_list es) ∷ []

abbrev pub scan_causes : ℕ → List ℕ → List Cause
scan_causes S es = cause 7 (any_below (leaves S es) (count es)) ∷ cause 8 (any_below (falls es) (count es)) ∷ []

abbrev pub early_causes : ℕ → List ℕ → List Cause
early_causes S es = cause 1 (bad_count S) ∷ cause 6 (bad_list es) ∷ scan_causes S es

abbrev pub stuck_cause : ℕ → List ℕ → Cause
stuck_cause S es = cause 9 (any_below (λ (s : ℕ). is_nil (succs es s)) S)
