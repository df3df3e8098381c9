-- `true_row` meets its contract.
use mathlib.Core.Path.{sym, ap, ◌∙◌}
use Prim.Native.Nat.{ℕ}
use mathlib.Core.List.{List, ◌++◌}
use native.Mathlib.Omega.{arith}
use lib.ListN.{drop, replicate}
use lib.Seq.{length-take-le}
use Rattle.values.specs.Values.{top}
use Rattle.ctl.proofs.Made.{all_same}
use Rattle.ctl.proofs.nodes.true_row.Goals as goal

pub returns : goal.returns
returns c =
    let x = c.args in
    let s = x.graph.now.states in
    ap (λ (xs : List ℕ). xs ++ drop s x.row.now) (c.fill.ensures.after (λ y e. e) ∙ ap (λ (n : ℕ). replicate n c.number.result) (length-take-le s x.row.now (omega (arith, x.graph.now.ready.accepted.few))) ∙ ap (replicate s) c.number.ensures ∙ sym (all_same top s))
