-- `formula` and `term` meet their contracts: each from what it owes, and together since each call is on less text.
use Prim.Native.Nat.{ℕ}
use mathlib.Core.Path.{refl, sym, ◌∙◌, subst}
use Rattle.formula.specs.Text.{sign, closing}
use Rattle.formula.specs.Inside.{prefix_named, opened, bracket_kind, NoneOf, Any}
use Rattle.formula.proofs.OneReading.{none_one}
use Rattle.formula.proofs.Marks.{SignThere, sign_there, there, from}
use Rattle.formula.proofs.Founds.{found_one, parses_any, parses_term}
use Rattle.formula.proofs.Pairs.{LeftRead, MiddleRead, left_read, middle_read, right_read, no_left, no_middle, no_right, no_close, found_two}
use Rattle.formula.proofs.reading.+formula_term.Goals as goal
use Rattle.formula.proofs.reading.+formula_term.Goals.{formula-In-Some, term-In-Some, term-In_ok-formula, term-In_ok-middle}

-- ---- a formula

prefix-read : (t : ℕ) (c : goal.formula-In-Some t) → SignThere sign prefix_named c.args.place.now.rest.now c.in-Some.prefix (from c.in-Some.prefix.size c.args.place.now.rest.now)
prefix-read t c = sign_there sign prefix_named _ _ c.in-Some.ensures

pub formula-returns-in_default : goal.formula-returns-in_default
formula-returns-in_default t c = parses_any c.args.place.now _ _ c.term.new.place c.term.result c.in_default.ensures c.term.ensures

pub formula-returns-in_err-formula : goal.formula-returns-in_err-formula
formula-returns-in_err-formula t c =
    let h = prefix-read t (goal.at.formula-returns-in_err-formula t c).In-Some in
    rw c.from_residual.ensures (subst (NoneOf Any) (sym h.there.text) (none_one h.which _ c.in_err-formula.ensures))

pub formula-returns : goal.formula-returns
formula-returns t c = found_one (prefix-read t (goal.at.formula-returns t c).In-Some) c.in_ok-formula.ensures c.put_node.ensures

-- ---- a term: what it has read behind its bracket, its left part, its middle and its right part

bracket-read : (t : ℕ) (c : goal.term-In-Some t) → SignThere opened bracket_kind c.args.place.now.rest.now c.in-Some.opening (from c.in-Some.opening.size c.args.place.now.rest.now)
bracket-read t c = sign_there opened bracket_kind _ _ c.in-Some.ensures

left-read : (t : ℕ) (c : goal.term-In_ok-formula t)
    → LeftRead c.args.place.now.rest.now c.args.place.now.nodes c.args.space.now c.formula.new.space c.in-Some.opening c.formula.new.place.rest.now c.formula.new.place.nodes
left-read t c = left_read c.in-Some.ensures c.in_ok-formula.ensures

middle-read : (t : ℕ) (c : goal.term-In_ok-middle t)
    → MiddleRead c.args.place.now.rest.now c.args.place.now.nodes c.args.space.now c.formula.new.space c.in-Some.opening c.formula.new.place.rest.now c.formula.new.place.nodes c.in_ok-middle.middle (from c.in_ok-middle.middle.size c.formula.new.place.rest.now)
middle-read t c = middle_read (left_read c.in-Some.ensures c.in_ok-formula.ensures) c.in_ok-middle.ensures

-- no bracket: a leaf
pub term-returns-in_default : goal.term-returns-in_default
term-returns-in_default t c = parses_term c.args.place.now _ _ c.leaf.new.place c.leaf.result c.in_default.ensures c.leaf.ensures

pub term-returns-in_err-formula : goal.term-returns-in_err-formula
term-returns-in_err-formula t c = rw c.from_residual.ensures (no_left (bracket-read t (goal.at.term-returns-in_err-formula t c).In-Some) c.in_err-formula.ensures)

pub term-returns-in_err-middle : goal.term-returns-in_err-middle
term-returns-in_err-middle t c =
    let x = left-read t (goal.at.term-returns-in_err-middle t c).In_ok-formula in
    rw c.from_residual-in_err-middle.ensures (no_middle x (c.in_err-middle.ensures x.bracket.which x.bracket.kind))

pub term-returns-in_err-formula-2 : goal.term-returns-in_err-formula-2
term-returns-in_err-formula-2 t c =
    rw c.from_residual-in_err-formula-2.ensures (no_right (middle-read t (goal.at.term-returns-in_err-formula-2 t c).In_ok-middle) c.in_err-formula-2.ensures)

pub term-returns-then-not-starts_with : goal.term-returns-then-not-starts_with
term-returns-then-not-starts_with t c =
    no_close (right_read c.in-Some.ensures c.in_ok-formula.ensures c.in_ok-middle.ensures c.in_ok-formula-2.ensures) (sym c.starts_with.ensures.value ∙ c.if-not-starts_with.true)

pub term-returns : goal.term-returns
term-returns t c =
    found_two (right_read c.in-Some.ensures c.in_ok-formula.ensures c.in_ok-middle.ensures c.in_ok-formula-2.ensures) (there closing _ 1 refl (sym c.starts_with.ensures.value ∙ c.if-not-starts_with.false)) c.put_node.ensures
