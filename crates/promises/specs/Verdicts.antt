-- What `judge` writes is the three-valued meaning, and it survives every completion of the unknown labels. A model is accepted where
-- the answer is `Ok v`; `held S after k s` is then the verdict that stands in the space for node k at state s.
use Rattle.std.specs.Prelude.{Ok, ◌≡◌, ℕ, ◌-◌, ◌<◌, ◌≤◌, List, Bool, ◌⊎◌, ◌↔◌, drop}
use Rattle.lists.specs.Entries.{at}
use Rattle.values.specs.Values.{top}
use Rattle.values.specs.Rows.{row_begin, held}
use Rattle.values.specs.declared.verdict.Verdict.{Verdict}
use Rattle.kripke.specs.Transitions.{Edge, Graph}
use Rattle.model.specs.Model.{Initial, Model, node_count, kind_at, left_at}
use Rattle.model.specs.Labels.{Labels, Settled, Completion, completed, label_count}
use Rattle.ctl.specs.Rows.{verdict_at, model_verdict}
use Rattle.ctl.specs.Answers.{Judged, Judging}

-- k is a node of the model and s a state of it
pub record There (m : Model) (k s : ℕ) : Type 0 where
  pub node : k < node_count m.nodes
  pub state : s < m.states

-- what `judge` wrote for node k at state s
abbrev pub written : Model → List ℕ → ℕ → ℕ → ℕ
written m after k s = held m.states after k s

-- this holds of all that `judge` leaves and answers where it accepts a model
abbrev pub Accepting : (Model → List ℕ → List ℕ → Verdict → Type 0) → Type 0
Accepting Holds = (m : Model) (before after : List ℕ) (v : Verdict) → Judging m before after (Ok v) → Holds m before after v

-- "For every state and every formula the verdict is true, false or unknown,
abbrev pub InRange : Type 0
InRange = Accepting (λ m before after v. (v.0 ≤ top) × ((k s : ℕ) → There m k s → written m after k s ≤ top))

-- exactly as the three-valued meaning of CTL over partial Kripke structures defines it." Node k means `verdict_at` at s, the model `model_verdict`.
abbrev pub RowsAreTheMeaning : Type 0
RowsAreTheMeaning = Accepting (λ m before after v. (v.0 ≡ model_verdict m) × ((k s : ℕ) → There m k s → written m after k s ≡ verdict_at m k s))

-- the number of the last node
abbrev pub last_of : Model → ℕ
last_of m = node_count m.nodes - 1

-- "The model's verdict is the smallest of the last node's values at the initial states": one of them has it, and none has less.
abbrev pub SmallestInitial : Type 0
SmallestInitial = Accepting (λ m before after v.
    ((s : ℕ) × Initial m.states m.initial s × (written m after (last_of m) s ≡ v.0))
    × ((s : ℕ) → Initial m.states m.initial s → v.0 ≤ written m after (last_of m) s))

-- "Bytes beyond the last row stay."
abbrev pub BeyondStays : Type 0
BeyondStays = Accepting (λ m before after v. drop (row_begin m.states (node_count m.nodes)) after ≡ drop (row_begin m.states (node_count m.nodes)) before)

-- What is accepted is admissible: its labels are in range, and its transitions are a graph.
abbrev pub AcceptedFits : Type 0
AcceptedFits = Accepting (λ m before after v. Labels m × Graph m.states m.transitions)

-- EX reaches a level exactly if some transition leads to a state where its part does.
abbrev pub NextReaches : Type 0
NextReaches = Accepting (λ m before after v. (k s level : ℕ) → There m k s → kind_at m.nodes k ≡ 4
    → (level ≤ written m after k s) ↔ ((t : ℕ) × Edge m.transitions s t × (level ≤ written m after (left_at m.nodes k) t)))

-- unknown before, or the same afterwards
abbrev pub Stays : ℕ → ℕ → Type 0
Stays v v' = (v ≡ 1) ⊎ (v ≡ v')

-- Where some unknown labels are settled, a verdict of the meaning is unknown before, or stays.
abbrev pub Settling : Type 0
Settling = (m m' : Model) → Settled m m' → ((k s : ℕ) → Stays (verdict_at m k s) (verdict_at m' k s)) × Stays (model_verdict m) (model_verdict m')

-- this holds of all that `judge` leaves and answers where it accepts both of two models so related, in whatever spaces
abbrev pub AcceptingBoth : (Model → Model → Type 0) → (Model → Model → List ℕ → List ℕ → Verdict → Verdict → Type 0) → Type 0
AcceptingBoth Related Holds =
    (m m' : Model) → Related m m' → (before after before' after' : List ℕ) (v v' : Verdict)
    → Judging m before after (Ok v) → Judging m' before' after' (Ok v') → Holds m m' after after' v v'

-- So is what two calls of `judge` wrote and answered;
abbrev pub SettlingKeeps : Type 0
SettlingKeeps = AcceptingBoth Settled (λ m m' after after' v v'. ((k s : ℕ) → There m k s → Stays (written m after k s) (written m' after' k s)) × Stays v.0 v'.0)

-- and the second call accepts wherever the first one does.
abbrev pub SettlingAccepted : Type 0
SettlingAccepted = Accepting (λ m before after v. (m' : Model) → Settled m m' → (after' : List ℕ) (r : Judged) → Judging m' before after' r → (v' : Verdict) × (r ≡ Ok v'))

-- "A true or false stays so however the unknown labels turn out, each filled in with yes or no, the transitions kept."
abbrev pub CompletionKeeps : Type 0
CompletionKeeps = AcceptingBoth Completion (λ m m' after after' v v'.
    ((k s : ℕ) → There m k s → (written m after k s ≡ 1 → ⊥) → written m' after' k s ≡ written m after k s) × ((v.0 ≡ 1 → ⊥) → v'.0 ≡ v.0))

-- Every choice of yes or no for the unknown labels of an accepted model is a completion, and a completion settles labels.
abbrev pub CompletionsThere : Type 0
CompletionsThere = Accepting (λ m before after v. (chosen : ℕ → Bool) → Completion m (completed m chosen)) × ((m m' : Model) → Completion m m' → Settled m m')

-- no label is unknown
abbrev pub Known : Model → Type 0
Known m = (i : ℕ) → i < label_count m → at m.labels i ≡ 1 → ⊥

-- "A model without unknown labels gets no unknown verdict."
abbrev pub NoUnknown : Type 0
NoUnknown = Accepting (λ m before after v. Known m → ((k s : ℕ) → There m k s → written m after k s ≡ 1 → ⊥) × (v.0 ≡ 1 → ⊥))

-- Both hold of the meaning itself, for any labels in range, accepted or not.
abbrev pub MeaningInRange : Type 0
MeaningInRange = (m : Model) → Labels m → ((k s : ℕ) → verdict_at m k s ≤ top) × (model_verdict m ≤ top)

abbrev pub MeaningKnown : Type 0
MeaningKnown = (m : Model) → Labels m → Known m → ((k s : ℕ) → verdict_at m k s ≡ 1 → ⊥) × (model_verdict m ≡ 1 → ⊥)
