-- `deny_row` meets its contract.
use Rattle.std.proofs.Common.{rules}
use Prim.Native.Nat.{ℕ}
use Rattle.values.specs.Values.{neg}
use Rattle.ctl.proofs.Made.{made_filled}
use Rattle.ctl.proofs.nodes.deny_row.Goals as goal

pub returns : goal.returns
returns c = made_filled _ _ _ _ (λ (a b : ℕ). neg a) _ _ (λ a b r h. search rules) c.map_row.ensures
