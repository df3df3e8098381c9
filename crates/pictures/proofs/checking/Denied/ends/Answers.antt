-- `ends` meets its contract: the list passes, and then its ending is tested.
use native.Mathlib.Omega.{arith}
use Rattle.kripke.proofs.Refusals.{accepted}
use Rattle.pictures.proofs.Checks.{passing_last}
use Rattle.pictures.proofs.checking.Denied.ends.Goals as goal

pub bounds-left-path : goal.bounds-left-path
bounds-left-path c = let d = c.args.self.now in omega (arith, (accepted d.states d.transitions.now d.readable.table).few, passing_last d.states d.transitions.now d.row.now c.args.path.now (c.passes.ensures.holds c.if-not-passes.false))
