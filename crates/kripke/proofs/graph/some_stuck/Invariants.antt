-- `some_stuck` meets its contract: a search through the states.
use mathlib.Core.Path.{◌≡◌}
use Prim.Native.Nat.{ℕ, ◌+◌}
use mathlib.Core.Bool.{false}
use lib.Dec.{eqb}
use Rattle.lists.specs.Entries.{any_below, at}
use Rattle.kripke.proofs.graph.some_stuck.Given as goal

abbrev pub invariant-loop-s : goal.invariant-loop-s
invariant-loop-s l = any_below (λ (t : ℕ). eqb (at l.begins t) (at l.begins (t + 1))) l.s ≡ false
