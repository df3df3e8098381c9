-- `pick` meets its contract: a scan of the successors.
use Rattle.std.proofs.Common.{◌≡◌, ℕ, ◌<◌, sym, ap, subst, ◌∙◌}
use mathlib.Core.Logic.{◌⊎◌, inl, inr}
use native.Mathlib.Omega.{arith}
use Rattle.lists.specs.Entries.{All, at}
use Rattle.values.specs.Limits.{most_states}
use Rattle.lists.proofs.Entries.{all_weaken}
use Rattle.kripke.specs.Answers.{targets}
use Rattle.kripke.proofs.Successors.{succs_states}
use Rattle.paths.specs.Inside.{first_fit}
use Rattle.paths.proofs.Scans.{fit_here, fit_passed}
use Rattle.paths.proofs.descent.pick.Goals as goal
use Rattle.paths.proofs.descent.pick.Goals.{else-above-t-via-then-above-t+else-distances-t, else-above-t-via-else-above-t}

pub loop-t-init : goal.loop-t-init
loop-t-init c =
    let x = c.args in
    let g = x.graph.now in
    record {
      fit = ap (first_fit x.distances.now x.want x.above) (ap (λ r. targets r.pairs.now) c.into_iter-t-iterator.ensures.into_iter_gives ∙ c.successors-t-items.ensures);
      inside = subst (All (λ (t : ℕ). t < most_states)) (sym (ap (λ r. targets r.pairs.now) c.into_iter-t-iterator.ensures.into_iter_gives ∙ c.successors-t-items.ensures)) (all_weaken (λ (t : ℕ). t < g.states) (λ (t : ℕ). t < most_states) (λ t l. omega (arith, g.ready.accepted.few)) _ (succs_states g.states g.transitions.now g.ready.accepted.graph x.s));
    }

pub returns-then-distances-t : goal.returns-then-distances-t
returns-then-distances-t c =
    let x = c.args in
    sym (fit_here x.distances.now x.want x.above _ _ c.if-above-t.true c.if-distances-t.true) ∙ ap (first_fit x.distances.now x.want x.above) (sym c.in-Some.ensures.steps) ∙ c.loop-t.invariant.fit

pub loop-t-preserved : goal.loop-t-preserved
loop-t-preserved c =
    let x = c.args in
    let g = x.graph.now in
    let e = c.in-Some.ensures.steps in
    let pass : (c.in-Some.t < x.above) ⊎ (at x.distances.now c.in-Some.t ≡ x.want → ⊥) = elim c.else-above-t.branch [ else-above-t-via-then-above-t+else-distances-t w ↦ inr w.if-distances-t.false | else-above-t-via-else-above-t w ↦ inl w.if-above-t.false ] in
    record {
      fit = sym (ap (first_fit x.distances.now x.want x.above) e ∙ fit_passed x.distances.now x.want x.above _ _ pass) ∙ c.loop-t.invariant.fit;
      inside = (subst (All (λ (t : ℕ). t < most_states)) e c.loop-t.invariant.inside).1;
    }

pub returns : goal.returns
unfolding first_fit
returns c =
    let x = c.args in
    ap (first_fit x.distances.now x.want x.above) (sym c.in-None.ensures.steps.0) ∙ c.loop-t.invariant.fit
