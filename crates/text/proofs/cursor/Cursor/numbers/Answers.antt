-- `numbers` meets its contract. The numbers that were read stand in the front, and the others are read from here on.
use native.Mathlib.Omega.{arith}
use mathlib.Core.Path.{refl, ap, ◌∙◌}
use Prim.Native.Nat.{ℕ}
use lib.ListN.{length, drop}
use Rattle.form.specs.Readers.{number}
use Rattle.text.proofs.Numbers.{held_more, held_stopped, held_done}
use Rattle.text.proofs.cursor.Cursor.numbers.Goals as goal

pub returns-in_default : goal.returns-in_default
returns-in_default c =
    let a = c.args in
    let l = c.loop-j in
    let n = c.number-line in
    held_stopped (length a.held.now) a.text.now _ a.held.now l.held l.j l.c.at l.invariant (omega arith) n.result
    (n.ensures ∙ ap (λ (stop : ℕ). number stop (drop l.c.at a.text.now)) c.stop_before.ensures) c.in_default.not-Read

pub loop-j-preserved : goal.loop-j-preserved
loop-j-preserved c =
    let a = c.args in
    let l = c.loop-j in
    let n = c.number-line in
    held_more (length a.held.now) a.text.now _ a.held.now l.held l.j l.c.at l.invariant refl (omega arith) n.result
    (n.ensures ∙ ap (λ (stop : ℕ). number stop (drop l.c.at a.text.now)) c.stop_before.ensures) c.in-Read.is

pub returns : goal.returns
returns c =
    let a = c.args in
    let l = c.loop-j in
    held_done (length a.held.now) a.text.now _ a.held.now l.held l.j l.c.at l.invariant (omega arith) refl
