-- `leaf` meets its contract.
use mathlib.Core.Path.{refl, sym, ◌∙◌}
use mathlib.Core.List.{[], ◌∷◌}
use Rattle.formula.proofs.OneReading.{none_leaf}
use Rattle.formula.proofs.Marks.{there}
use Rattle.formula.proofs.Founds.{found_true, found_atom, no_atom}
use Rattle.formula.proofs.reading.leaf.Goals as goal

pub returns-then-starts_with : goal.returns-then-starts_with
returns-then-starts_with c = found_true (there (84 ∷ []) _ 1 refl (sym c.starts_with.ensures.value ∙ c.if-starts_with.true)) c.put_node.ensures

pub returns-then-not-starts_with : goal.returns-then-not-starts_with
returns-then-not-starts_with c =
    none_leaf _ (sym c.starts_with.ensures.value ∙ c.if-starts_with.false) (sym c.starts_with-2.ensures.value ∙ c.if-not-starts_with.true)

pub returns-in_err-atom : goal.returns-in_err-atom
returns-in_err-atom c =
    rw c.from_residual.ensures (no_atom (there (112 ∷ []) _ 1 refl (sym c.starts_with-2.ensures.value ∙ c.if-not-starts_with.false)) c.in_err-atom.ensures)

pub returns : goal.returns
returns c =
    found_atom (there (112 ∷ []) _ 1 refl (sym c.starts_with-2.ensures.value ∙ c.if-not-starts_with.false)) c.in_ok-atom.ensures c.put_node-2.ensures
