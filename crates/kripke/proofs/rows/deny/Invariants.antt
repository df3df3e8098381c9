-- `deny` meets its contract: a row filled from the front.
use Prim.Native.Nat.{ℕ}
use Rattle.lists.specs.Entries.{at}
use Rattle.lists.specs.Rows.{Filled}
use Rattle.values.specs.Values.{neg}
use Rattle.kripke.proofs.rows.deny.Given as goal

abbrev pub invariant-loop-s : goal.invariant-loop-s
invariant-loop-s l = Filled (λ (i : ℕ). neg (at l.values i)) l.s l.initial.out l.out
