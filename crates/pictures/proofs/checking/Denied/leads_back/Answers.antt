-- `leads_back` meets its contract: the last state and the one at the place as a list of two.
use native.Mathlib.Omega.{arith}
use Rattle.pictures.proofs.Checks.{pair_leads}
use Rattle.pictures.proofs.checking.Denied.leads_back.Goals as goal

pub returns : goal.returns
returns c =
    let d = c.args.self.now in
    pair_leads d.states d.transitions.now d.row.now c.args.path.now c.args.k _ c.requires (omega (arith, c.if-n-k.false)) c.passes.ensures
