-- `atom_at` meets its contract. Before each byte the digits so far say the number so far.
use mathlib.Core.Path.{◌≡◌, sym, subst}
use Prim.Native.Nat.{ℕ}
use native.Mathlib.Omega.{arith}
use lib.ListN.{length}
use Rattle.std.proofs.lemmas.Bool.{eqb-true, eqb-false}
use Rattle.formula.proofs.AtomLaws.{Digested, digested_first, digested_more, digested_ended, zero_led, too_great, no_number, stops_at, stops_end}
use Rattle.formula.proofs.atoms.atom_at.Goals as goal

pub returns-then-is_empty : goal.returns-then-is_empty
returns-then-is_empty c =
    let a = c.args in
    no_number a.rest.now (stops_end a.rest.now 0 (omega (arith, eqb-true (length a.rest.now) 0 (sym c.if-is_empty.ensures))))

pub returns-in_err-number : goal.returns-in_err-number
returns-in_err-number c =
    let a = c.args in
    rw c.from_residual.ensures (no_number a.rest.now (stops_at a.rest.now 0 (omega (arith, eqb-false (length a.rest.now) 0 (sym c.if-is_empty.ensures))) c.in_err-number.ensures))

pub loop-i-init : goal.loop-i-init
loop-i-init c =
    let a = c.args in
    digested_first a.rest.now _ (omega (arith, eqb-false (length a.rest.now) 0 (sym c.if-is_empty.ensures))) c.in_ok-number.ensures

pub returns-in_default : goal.returns-in_default
returns-in_default c =
    let a = c.args in
    digested_ended a.rest.now c.loop-i.i c.loop-i.number c.loop-i.invariant (stops_at a.rest.now c.loop-i.i c.loop-i-test.true c.in_default.ensures) _ c.ended.ensures

pub returns-then-number-eq0 : goal.returns-then-number-eq0
returns-then-number-eq0 c =
    let a = c.args in
    zero_led a.rest.now c.loop-i.i c.loop-i.number _ c.loop-i.invariant c.loop-i-test.true c.in-Some.ensures c.if-number-eq0.true

pub returns-then-number-ge-MOST_ATOMS : goal.returns-then-number-ge-MOST_ATOMS
returns-then-number-ge-MOST_ATOMS c =
    let a = c.args in
    too_great a.rest.now c.loop-i.i c.loop-i.number _ c.loop-i.invariant c.loop-i-test.true c.in-Some.ensures c.if-number-ge-MOST_ATOMS.true

pub loop-i-preserved : goal.loop-i-preserved
loop-i-preserved c =
    let a = c.args in
    digested_more a.rest.now c.loop-i.i c.loop-i.number _ c.loop-i.invariant c.loop-i-test.true c.in-Some.ensures c.if-number-eq0.false c.if-number-ge-MOST_ATOMS.false

pub returns : goal.returns
returns c =
    let a = c.args in
    let end : c.loop-i.i ≡ length a.rest.now = omega (arith, c.loop-i.auto.i-end, c.loop-i-test.false, eqb-false (length a.rest.now) 0 (sym c.if-is_empty.ensures)) in
    digested_ended a.rest.now _ c.loop-i.number (subst (λ (i : ℕ). Digested a.rest.now i c.loop-i.number) end c.loop-i.invariant) (stops_end a.rest.now _ (omega arith)) _ c.ended-2.ensures
