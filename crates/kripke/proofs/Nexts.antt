-- The greatest value among the successors reaches a level exactly if that of some successor does, the least if that of every one does.
use Prim.Native.Nat.{ℕ, ◌≤◌, ◌<◌, min, max}
use mathlib.Core.List.{List}
use mathlib.Core.Bool.{true, false}
use mathlib.Core.Logic.{◌↔◌}
use native.Mathlib.Omega.{arith}
use Rattle.kripke.specs.Transitions.{Edge, Graph, succs}
use Rattle.kripke.specs.Until.{next}
use Rattle.lists.specs.Entries.{at}
use Rattle.kripke.proofs.Steps.{choose_picks}
use Rattle.kripke.proofs.Successors.{edge_succ, succ_edge}
use Rattle.lists.proofs.Choosing.{best_picked, greatest_bounds, least_bounds}

pub next_reaches_lem : (S : ℕ) (es : List ℕ) → Graph S es → (row : List ℕ) (level s : ℕ) → s < S → (level ≤ next false es row s) ↔ ((t : ℕ) × Edge es s t × (level ≤ at row t))
unfolding next
next_reaches_lem S es G row level s h = (
  λ l. let p = best_picked max (at row) (choose_picks false) (succs es s) (G.out s h) in (p.0, succ_edge es s p.0 p.1, omega (arith, p.2)),
  λ w. omega (arith, w.2, greatest_bounds (at row) (succs es s) w.0 (edge_succ es s w.0 w.1)),
)

pub next_every : (S : ℕ) (es : List ℕ) → Graph S es → (row : List ℕ) (level s : ℕ) → s < S → (level ≤ next true es row s) ↔ ((t : ℕ) → Edge es s t → level ≤ at row t)
unfolding next
next_every S es G row level s h = (
  λ l t e. omega (arith, l, least_bounds (at row) (succs es s) t (edge_succ es s t e)),
  λ w. let p = best_picked min (at row) (choose_picks true) (succs es s) (G.out s h) in omega (arith, w p.0 (succ_edge es s p.0 p.1), p.2),
)
