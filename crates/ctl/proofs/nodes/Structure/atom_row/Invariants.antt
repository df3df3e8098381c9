-- `atom_row` meets its contract: a row filled from the front.
use Prim.Native.Nat.{ℕ, ◌+◌, ◌*◌}
use Rattle.lists.specs.Entries.{at}
use Rattle.lists.specs.Rows.{Filled}
use Rattle.ctl.proofs.nodes.Structure.atom_row.Given as goal

abbrev pub invariant-loop-s : goal.invariant-loop-s
invariant-loop-s l = Filled (λ (t : ℕ). at l.self.labels.now (t * l.self.atoms + l.atom)) l.s l.initial.row l.row
