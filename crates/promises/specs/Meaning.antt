-- Why walks of S states are enough: E and A say what endless paths say, and they are the least solutions of x = right or (left and EX x), for A with AX.
use Rattle.std.specs.Prelude.{◌≡◌, ℕ, ◌<◌, ◌≤◌, Bool, true, false, ◌↔◌}
use mathlib.Core.List.{List, Memᴰ}
use Rattle.lists.specs.Entries.{at}
use Rattle.lists.specs.Rows.{tab}
use Rattle.kripke.specs.Transitions.{Graph}
use Rattle.kripke.specs.Walks.{Walk, walks}
use Rattle.kripke.specs.Until.{until, next, step}
use Rattle.kripke.specs.Endless.{Endless, Settles}

-- "A walk from s is a list of exactly S states that begins with s, each next one a successor": the list of walks has these and no other.
abbrev pub WalksListed : Type 0
WalksListed = (es : List ℕ) (n s : ℕ) (w : List ℕ) → Memᴰ w (walks es n s) ↔ Walk es n s w

-- this holds of any graph of S states, in which each has a successor, and of any two rows
abbrev pub OnGraphs : (ℕ → List ℕ → List ℕ → List ℕ → Type 0) → Type 0
OnGraphs Holds = (S : ℕ) (es : List ℕ) → Graph S es → (L R : List ℕ) → Holds S es L R

-- "S entries suffice because every state has a successor": longer walks give the same.
abbrev pub EnoughWalks : Type 0
EnoughWalks = OnGraphs (λ S es L R. (all : Bool) (n s : ℕ) → S ≤ n → s < S → until all es L R n s ≡ until all es L R S s)

-- "The result is that of infinite paths." E reaches a level exactly if some endless path has a place where right reaches it and left did before.
abbrev pub ExistsPath : Type 0
ExistsPath = OnGraphs (λ S es L R. (level s : ℕ) → s < S → (level ≤ until false es L R S s) ↔ ((π : ℕ → ℕ) × (i : ℕ) × Endless es s π × Settles L R level π i))

-- A reaches a level: every endless path has such a place. A misses it: some endless path has none.
abbrev pub EveryPath : Type 0
EveryPath = OnGraphs (λ S es L R. (level s : ℕ) → s < S
    → (level ≤ until true es L R S s → (π : ℕ → ℕ) → Endless es s π → (i : ℕ) × Settles L R level π i)
    × (until true es L R S s < level → (π : ℕ → ℕ) × Endless es s π × ((i : ℕ) → Settles L R level π i → ⊥)))

-- E and A solve their equation: right, or left and the greatest, for A the least, of the successors.
abbrev pub Solution : Type 0
Solution = OnGraphs (λ S es L R. (all : Bool) (s : ℕ) → s < S → until all es L R S s ≡ step (at L s) (at R s) (next all es (tab (until all es L R S) S) s))

-- And no row that the equation does not raise is smaller anywhere.
abbrev pub LeastSolution : Type 0
LeastSolution = OnGraphs (λ S es L R. (all : Bool) (X : List ℕ) → ((s : ℕ) → s < S → step (at L s) (at R s) (next all es X s) ≤ at X s)
    → (s : ℕ) → s < S → until all es L R S s ≤ at X s)
