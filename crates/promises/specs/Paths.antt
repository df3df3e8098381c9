-- Shortest witness paths, one after the other. A run is First's answer and then Next's answers, the list lent to Next being exactly the
-- entries given before; what each call promises is named in the crate of the path calls, and so are question, witness, shortest and the
-- order of lists.
use Rattle.std.specs.Prelude.{Some, None, Ok, Err}
use Rattle.values.specs.declared.refusal.Refusal.{Refusal}
use Rattle.values.specs.declared.refusal.Refusal.TheVariants.{PathSpace}
use Rattle.paths.specs.declared.Further.TheVariants.{End}
use Rattle.paths.specs.Answers.{FirstAnswer, NextAnswer, CheckAnswer}
use Rattle.std.specs.Prelude.{◌≡◌, ℕ, ◌<◌, ◌≤◌, List, ◌++◌, ◌⊎◌, ◌↔◌, length}
use Rattle.values.specs.Values.{neg}
use Rattle.model.specs.Model.{Model, kind_at}
use Rattle.paths.specs.Questions.{Question, asked, Shortest, Witnessed, WitnessedWithin}
use Rattle.paths.specs.Order.{Among, Ascending}
use Rattle.paths.specs.Answers.{FirstPromise, NextPromise, CheckPromise}
use Rattle.paths.specs.Runs.{Chain, Run, RoomFor, Roomy}
use Rattle.promises.specs.One.{One}
use Rattle.promises.specs.Reasons.{RowsOf, of_parts, of_part, of_not}
use Rattle.promises.specs.Verdicts.{Accepting, There, written}

-- "I get every shortest witness path, each once, in ascending order of its state numbers, and then the word that there are no more."
-- For a question that is not refused and a space large enough for a shortest path there is exactly one whole run, and it holds them.
abbrev pub EveryShortestPath : Type 0
EveryShortestPath =
    (q : Question) (start : ℕ) (space : List ℕ) → Roomy q start space
    → (ps : List (List ℕ)) × Run q start space ps × ((rs : List (List ℕ)) → Run q start space rs → rs ≡ ps)
    × ((r : List ℕ) → Among r ps ↔ Shortest q start r) × Ascending ps

-- Wherever First refuses nothing the question and the space are such.
abbrev pub RoomyThere : Type 0
RoomyThere = (q : Question) (start : ℕ) (space after : List ℕ) (a : FirstAnswer) → FirstPromise q start space after a → ((e : Refusal) → a ≡ Err e → ⊥) → Roomy q start space

-- "I can ask for a path and then the next one": what was handed out so far is always a beginning of that run,
abbrev pub ChainIsBeginning : Type 0
ChainIsBeginning = (q : Question) (start : ℕ) (space : List ℕ) (ps rs : List (List ℕ)) → Chain q start space ps → Run q start space rs → (rest : List (List ℕ)) × (rs ≡ ps ++ rest)

-- and every beginning of it may be what was handed out so far.
abbrev pub BeginningIsChain : Type 0
BeginningIsChain = (q : Question) (start : ℕ) (space : List ℕ) (ps rest : List (List ℕ)) → Run q start space (ps ++ rest) → Chain q start space ps

-- Asking again after "end" gives "end", and the list stays.
abbrev pub EndAgain : Type 0
EndAgain = (q : Question) (p after again : List ℕ) (a : NextAnswer) → NextPromise q p after (Ok End) → NextPromise q after again a → (a ≡ Ok End) × (again ≡ after)

-- With as many entries as there are states the space is always large enough, and 16 is never given.
abbrev pub RoomEnough : Type 0
RoomEnough = (q : Question) (start : ℕ) (space : List ℕ) → q.states ≤ length space → RoomFor q start space × ((after : List ℕ) → FirstPromise q start space after (Err PathSpace) → ⊥)

-- A witness exists exactly if one does that has at most as many entries as there are states.
abbrev pub FewEnough : Type 0
FewEnough = (q : Question) (start : ℕ) → Witnessed q start ↔ WitnessedWithin q start q.states

-- "A refusal changes nothing we lent": neither First's path space nor the list that Next was lent.
abbrev pub PathRefusalKeeps : Type 0
PathRefusalKeeps =
    ((q : Question) (start : ℕ) (before after : List ℕ) (e : Refusal) → FirstPromise q start before after (Err e) → after ≡ before)
    × ((q : Question) (before after : List ℕ) (e : Refusal) → NextPromise q before after (Err e) → after ≡ before)

-- Any two answers that First may give coincide, and so do the spaces;
abbrev pub OneFirst : Type 0
OneFirst = (q : Question) (start : ℕ) (before : List ℕ) → One (FirstPromise q start before)

-- so do those of Next;
abbrev pub OneNext : Type 0
OneNext = (q : Question) (before : List ℕ) → One (NextPromise q before)

-- and those of Check.
abbrev pub OneCheck : Type 0
OneCheck = (q : Question) (path : List ℕ) (a a' : CheckAnswer) → CheckPromise q path a → CheckPromise q path a' → a ≡ a'

-- what is asked about node k of a judged model, at a level: a path with these rows
abbrev pub path_of : RowsOf → Model → List ℕ → ℕ → ℕ → Question
path_of rows m space k level = asked m.states m.transitions (rows m space k).left (rows m space k).right level

-- First has a path for a node of this kind, asked with these rows, exactly where this of what `judge` wrote for it reaches the level, 2 by
-- true alone, 1 by all but false
abbrev pub FirstTells : ℕ → RowsOf → (ℕ → ℕ) → Type 0
FirstTells kind rows value = Accepting (λ m before after v. (k s level : ℕ) → There m k s → kind_at m.nodes k ≡ kind → (level ≡ 1) ⊎ (level ≡ 2)
    → (space space' : List ℕ) (a : FirstAnswer) → RoomFor (path_of rows m after k level) s space → FirstPromise (path_of rows m after k level) s space space' a
    → (level ≤ value (written m after k s) → (n : ℕ) × (a ≡ Ok (Some n))) × (value (written m after k s) < level → a ≡ (Ok None)))

-- "At the level 'true' there is a first path exactly when the verdict is true; at the level 'possible', exactly when it isn't false. Here the
-- rows are the verdicts of the question's own two parts", "the room being large enough for a shortest one". Node k is E(left U right).
abbrev pub FirstExactly : Type 0
FirstExactly = FirstTells 5 of_parts (λ (v : ℕ). v)

-- The same where node k is EF.
abbrev pub EventuallyExactly : Type 0
EventuallyExactly = FirstTells 10 of_part (λ (v : ℕ). v)

-- Where node k is AG, a path leads to a state where its part is false: at the level "true" there is one exactly when the verdict is false, at
-- "possible" exactly when it isn't true.
abbrev pub NotAlwaysExactly : Type 0
NotAlwaysExactly = FirstTells 13 of_not neg
