-- S entries are enough: a witness exists exactly if one of at most S entries does, a shortest one has at most S, and with S entries of space 16 is never given.
use Rattle.std.specs.Prelude.{Err}
use Rattle.values.specs.declared.refusal.Refusal.TheVariants.{PathSpace}
use Prim.Native.Nat.{ℕ, ◌≤◌}
use mathlib.Core.List.{List, [], ◌∷◌}
use mathlib.Core.Logic.{⊎_elim, ◌↔◌}
use native.Mathlib.Omega.{arith}
use lib.ListN.{length}
use Rattle.kripke.specs.Walks.{Begins}
use Rattle.paths.specs.Questions.{LeftHolds, Question, RightHolds, Shortest, Witness, Witnessed, WitnessedWithin}
use Rattle.paths.specs.Refusals.{first_causes}
use Rattle.paths.specs.Answers.{FirstPromise}
use Rattle.lists.proofs.Late.{applies_below}
use Rattle.paths.proofs.Simple.{shorten}

shorter : (q : Question) (s : ℕ) (p : List ℕ) → Begins s p → Witness q p → WitnessedWithin q s q.states
shorter q s [] b w = absurd b
shorter q s (t ∷ p) b w =
    let x = shorten q.transitions (LeftHolds q) (RightHolds q) q.states (λ s h. h.0) (λ s h. h.0) t p w in
    (t ∷ x.0, b, x.1, x.2)

pub few_enough_lem : (q : Question) (s : ℕ) → Witnessed q s ↔ WitnessedWithin q s q.states
few_enough_lem q s = (λ x. shorter q s x.0 x.1 x.2, λ x. (x.0, x.1, x.2))

pub shortest_few : (q : Question) (s : ℕ) (p : List ℕ) → Shortest q s p → length p ≤ q.states
shortest_few q s p h = let x = shorter q s p h.begins h.witness in omega (arith, h.fewest x.0 x.1 x.2, x.3)

pub never_16 : (q : Question) (start : ℕ) (space after : List ℕ) → q.states ≤ length space → FirstPromise q start space after (Err PathSpace) → ⊥
never_16 q start space after room f =
    ⊎_elim
    (λ a. omega (arith, applies_below 15 (first_causes q start) (omega arith) 16 a))
    (λ t. omega (arith, shortest_few q start t.1.path t.1.shortest, t.1.longer))
    (f.number.applies (λ z. omega arith))
