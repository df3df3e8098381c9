-- `next_at` meets its contract: what was chosen and what is still to come give the whole.
use Rattle.std.proofs.Common.{◌≡◌, ◌<◌, ℕ, List, ◌∷◌, map, sym, ap, subst, ◌∙◌}
use mathlib.Core.Bool.{Bool}
use native.Mathlib.Omega.{arith}
use Rattle.lists.specs.Choosing.{best}
use Rattle.lists.specs.Entries.{at, All}
use Rattle.lists.proofs.Choosing.{run, run_best}
use Rattle.values.specs.Answers.{verdict}
use Rattle.values.specs.Values.{choose}
use Rattle.values.specs.declared.verdict.Verdict.{Verdict}
use Rattle.kripke.specs.Transitions.{succs}
use Rattle.kripke.specs.Answers.{targets}
use Rattle.kripke.specs.Until.{next}
use Rattle.kripke.proofs.Successors.{succs_states}
use Rattle.kripke.proofs.Steps.{choose_assoc}
use Rattle.kripke.specs.declared.lent.Graph.{Graph}
use Rattle.kripke.specs.declared.lent.Ends.{Ends}
use Rattle.ctl.proofs.until.next_at.Goals as goal

-- the successors are states
inside : (g : Graph) (s : ℕ) → All (λ (t : ℕ). t < g.states) (succs g.transitions.now s)
inside g s = succs_states g.states g.transitions.now g.ready.accepted.graph s

begun : (all : Bool) (row : List ℕ) (t : ℕ) (ts : List ℕ) → run (choose all) (at row t) (map (at row) ts) ≡ best (choose all) (map (at row) (t ∷ ts))
begun all row t ts = run_best (choose all) (choose_assoc all) (at row t) (map (at row) ts)

pub bounds-row-first : goal.bounds-row-first
bounds-row-first c =
    let g = c.args.graph.now in
    omega (arith, g.ready.accepted.few, (subst (All (λ (t : ℕ). t < g.states)) (sym c.successors-ends.ensures ∙ c.in-Some.ensures.steps) (inside g c.args.s)).0)

pub loop-t-init : goal.loop-t-init
unfolding next
loop-t-init c =
    let x = c.args in
    let e = ap (λ (ends : Ends). c.in-Some.first ∷ targets ends.pairs.now) c.into_iter-t-iterator.ensures.into_iter_gives ∙ sym c.in-Some.ensures.steps ∙ c.successors-ends.ensures in
    record {
      whole = begun x.all x.row.now c.in-Some.first _ ∙ ap (λ (ts : List ℕ). best (choose x.all) (map (at x.row.now) ts)) e;
      inside = (subst (All (λ (t : ℕ). t < x.graph.now.states)) (sym e) (inside x.graph.now x.s)).1;
    }

-- no successor: the best of none
pub returns-in_default : goal.returns-in_default
unfolding next best
returns-in_default c = let x = c.args in ap (λ (ts : List ℕ). verdict (best (choose x.all) (map (at x.row.now) ts))) (sym c.in_default.ensures.steps.0 ∙ c.successors-ends.ensures)

pub loop-t-preserved : goal.loop-t-preserved
unfolding run
loop-t-preserved c =
    let x = c.args in
    let e = c.in-Some-t.ensures.steps in
    let i = c.loop-t.invariant in
    record {
      whole = ap (λ (v : Verdict). run (choose x.all) v.0 (map (at x.row.now) (targets c.next-in-loop-t.new.self.pairs.now))) c.chosen-best.ensures ∙ ap (λ (ts : List ℕ). run (choose x.all) c.loop-t.best.0 (map (at x.row.now) ts)) (sym e) ∙ i.whole;
      inside = (subst (All (λ (t : ℕ). t < x.graph.now.states)) e i.inside).1;
    }

pub returns : goal.returns
unfolding run
returns c = let x = c.args in ap verdict (ap (λ (ts : List ℕ). run (choose x.all) c.loop-t.best.0 (map (at x.row.now) ts)) (sym c.in-None.ensures.steps.0) ∙ c.loop-t.invariant.whole)
