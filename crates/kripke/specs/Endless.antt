-- Endless paths, and a place of one that settles an until at a level.
use Rattle.std.specs.Prelude.{◌≡◌, ℕ, suc, ◌<◌, ◌≤◌, List}
use Rattle.lists.specs.Entries.{at}
use Rattle.kripke.specs.Transitions.{Edge}

-- an endless path from s, joined by transitions
pub record Endless (es : List ℕ) (s : ℕ) (π : ℕ → ℕ) : Type 0 where
  pub begins : π 0 ≡ s
  pub joined : (i : ℕ) → Edge es (π i) (π (suc i))

-- at place i the right value, and at all earlier places the left value, is at least the level
pub record Settles (L R : List ℕ) (level : ℕ) (π : ℕ → ℕ) (i : ℕ) : Type 0 where
  pub right : level ≤ at R (π i)
  pub left : (j : ℕ) → j < i → level ≤ at L (π j)

-- some endless path from s has a place where this holds, and so has every one
abbrev pub SomeHas : List ℕ → ℕ → (ℕ → Type 0) → Type 0
SomeHas es s Holds = (π : ℕ → ℕ) × Endless es s π × ((i : ℕ) × Holds (π i))

abbrev pub EveryHas : List ℕ → ℕ → (ℕ → Type 0) → Type 0
EveryHas es s Holds = (π : ℕ → ℕ) → Endless es s π → (i : ℕ) × Holds (π i)

-- on some endless path from s this holds at every place, and so it does on every one
abbrev pub SomeKeeps : List ℕ → ℕ → (ℕ → Type 0) → Type 0
SomeKeeps es s Holds = (π : ℕ → ℕ) × Endless es s π × ((i : ℕ) → Holds (π i))

abbrev pub EveryKeeps : List ℕ → ℕ → (ℕ → Type 0) → Type 0
EveryKeeps es s Holds = (π : ℕ → ℕ) → Endless es s π → (i : ℕ) → Holds (π i)
