-- Judging. "Whatever tables, lists or text we hand it, it ends with an answer or a numbered refusal. Nobody has to check
-- anything first." No public call has a condition on its input, and each is proved to end; what it answers is said here.
use Rattle.values.specs.declared.refusal.Refusal.{Refusal}
use Rattle.values.specs.declared.refusal.Refusal.TheVariants.{UnnamedAtom}
use Rattle.std.specs.Prelude.{◌≡◌, ℕ, ◌<◌, List, length, Ok, Err}
use Rattle.lists.specs.Causes.{Applies, Lowest}
use Rattle.values.specs.Refusal.{answer_number}
use Rattle.values.specs.declared.verdict.Verdict.{Verdict}
use Rattle.model.specs.Model.{Model, node_count, kind_at, left_at}
use Rattle.model.specs.Refusals.{judge_causes}
use Rattle.ctl.specs.Answers.{Judged, Judging}
use Rattle.promises.specs.One.{One}

-- "A refusal changes nothing we lent."
abbrev pub RefusalKeeps : Type 0
RefusalKeeps = (m : Model) (before after : List ℕ) (e : Refusal) → Judging m before after (Err e) → after ≡ before

-- The number is the lowest that applies, and it is given only then; 0 where none does.
abbrev pub RefusalLowest : Type 0
RefusalLowest = (m : Model) (before after : List ℕ) (r : Judged) → Judging m before after r → Lowest (Applies (judge_causes m (length before))) (answer_number r)

-- a node of kind atom has this left number
abbrev pub NamedBy : List ℕ → ℕ → Type 0
NamedBy ns a = (i : ℕ) × (i < node_count ns) × (kind_at ns i ≡ 1) × (left_at ns i ≡ a)

-- "An atom number below the atom count that no node names is now refused with 22": where that is the number, there is such an atom,
abbrev pub UnnamedRefused : Type 0
UnnamedRefused = (m : Model) (before after : List ℕ) → Judging m before after (Err UnnamedAtom) → (a : ℕ) × (a < m.atoms) × (NamedBy m.nodes a → ⊥)

-- and where a model is judged, there is none.
abbrev pub JudgedNamed : Type 0
JudgedNamed = (m : Model) (before after : List ℕ) (v : Verdict) → Judging m before after (Ok v) → (a : ℕ) → a < m.atoms → NamedBy m.nodes a

-- "Every answer is pinned down to the last entry." Any two answers that `judge` may give coincide, and so do the spaces.
abbrev pub OneAnswer : Type 0
OneAnswer = (m : Model) (before : List ℕ) → One (Judging m before)
