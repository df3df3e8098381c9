-- `atom_at` meets its contract. Before each byte the digits so far say the number so far.
use Rattle.formula.proofs.AtomLaws.{Digested}
use Rattle.formula.proofs.atoms.atom_at.Given as goal

abbrev pub invariant-loop-i : goal.invariant-loop-i
invariant-loop-i l = Digested l.rest l.i l.number
