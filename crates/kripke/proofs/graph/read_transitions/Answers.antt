-- `read_transitions` meets its contract: refused from the lists, refused for a stuck state, or not refused.
use mathlib.Core.Path.{◌≡◌, sym, ◌∙◌}
use native.Mathlib.Omega.{arith}
use Rattle.lists.specs.Causes.{refusal_of}
use Rattle.values.proofs.Refusing.{handed_on}
use Rattle.kripke.specs.Inside.{early_causes}
use Rattle.kripke.proofs.Read.{read_fine, read_stuck}
use Rattle.kripke.proofs.Refusals.{early_count, early_each, early_list, listed, table_early}
use Rattle.kripke.proofs.graph.read_transitions.Goals as goal
use Rattle.kripke.proofs.graph.read_transitions.Goals.{In_ok-check_each}

fine : (c : In_ok-check_each) → refusal_of (early_causes c.args.states c.args.transitions.now) ≡ 0
fine c = early_each _ _ c.in_ok-check_count.ensures c.in_ok-check_list.ensures ∙ c.in_ok-check_each.ensures

pub returns-in_err-check_count : goal.returns-in_err-check_count
returns-in_err-check_count c = handed_on _ _ _ _ c.from_residual.ensures.1 (table_early _ _ _ (early_count _ _ _ c.in_err-check_count.ensures))

pub returns-in_err-check_list : goal.returns-in_err-check_list
returns-in_err-check_list c = handed_on _ _ _ _ c.from_residual-in_err-check_list.ensures.1 (table_early _ _ _ (early_list _ _ _ c.in_ok-check_count.ensures c.in_err-check_list.ensures))

pub returns-in_err-check_each : goal.returns-in_err-check_each
returns-in_err-check_each c = handed_on _ _ _ _ c.from_residual-in_err-check_each.ensures.1 (table_early _ _ _ (early_each _ _ c.in_ok-check_count.ensures c.in_ok-check_list.ensures ∙ c.in_err-check_each.ensures))

pub fill_begins-requires : goal.fill_begins-requires
fill_begins-requires c =
    let l = listed c.args.states c.args.transitions.now (fine (goal.at.fill_begins-requires c).In_ok-check_each) in
    (omega (arith, l.few), l.short, l.ascending)

pub some_stuck-requires : goal.some_stuck-requires
some_stuck-requires c =
    let l = listed c.args.states c.args.transitions.now (fine (goal.at.some_stuck-requires c).In_ok-check_each) in
    omega (arith, l.few, c.fill_begins.auto.begins)

pub returns-then-some_stuck : goal.returns-then-some_stuck
returns-then-some_stuck c = read_stuck _ _ (fine (goal.at.returns-then-some_stuck c).In_ok-check_each) _ c.fill_begins.ensures (sym c.some_stuck.ensures ∙ c.if-some_stuck.true)

pub returns : goal.returns
returns c = read_fine _ _ (fine (goal.at.returns c).In_ok-check_each) _ c.fill_begins.ensures (sym c.some_stuck.ensures ∙ c.if-some_stuck.false)
