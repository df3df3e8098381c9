-- `read` meets its contract. The labelled states and then the lists, each by the answer before it.
use native.Mathlib.Omega.{arith}
use mathlib.Core.Path.{ap, sym, ◌∙◌}
use Rattle.lists.specs.Entries.{at}
use Rattle.text.specs.Answers.{settled}
use Rattle.text.specs.Inside.{told, carried, lists_text, labelled_in, lists_in}
use Rattle.text.proofs.Answers.{stopped, went, outcome_refused, text_refused, taken_read, taken_stops}
use Rattle.text.proofs.Parts.{model_parts}
use Rattle.text.proofs.tables.Held.read.Goals as goal

pub returns-in_err-states : goal.returns-in_err-states
returns-in_err-states c =
    let a = c.args in
    let s = a.text.now in
    let x = c.labelled-first in
    let f = labelled_in x.new.labels x.new.initial in
    let h = lists_in (f 0 0) a.self.now.transitions a.self.now.nodes in
    let e = sym c.accepted.ensures ∙ c.in_err-states.was in
    text_refused s _ _ _ c.from_residual.ensures.1 (outcome_refused h s x.result _ _ e (stopped f h lists_text s x.result _ x.ensures (taken_stops _ _ e) ∙ model_parts s))

pub returns-in_err-edges : goal.returns-in_err-edges
returns-in_err-edges c =
    let s = c.args.text.now in
    let x = c.labelled-first in
    let f = labelled_in x.new.labels x.new.initial in
    let i = taken_read _ _ _ _ (sym c.accepted.ensures ∙ c.in_ok-states.was) in
    let l = f c.in_ok-states.states c.in_ok-states.atoms in
    let y = c.lists-second in
    let h = lists_in l y.new.transitions y.new.nodes in
    let e = sym c.accepted-2.ensures ∙ c.in_err-edges.was in
    text_refused s _ _ _ c.from_residual-in_err-edges.ensures.1 (outcome_refused h s y.result _ _ e (y.ensures.says l ∙ sym (went f lists_text s x.result _ x.ensures i) ∙ model_parts s))

pub returns : goal.returns
returns c =
    let s = c.args.text.now in
    let x = c.labelled-first in
    let f = labelled_in x.new.labels x.new.initial in
    let i = taken_read _ _ _ _ (sym c.accepted.ensures ∙ c.in_ok-states.was) in
    let l = f c.in_ok-states.states c.in_ok-states.atoms in
    let y = c.lists-second in
    let j = taken_read _ _ _ _ (sym c.accepted-2.ensures ∙ c.in_ok-edges.was) in
    let h = lists_in l y.new.transitions y.new.nodes in
    record {
      says = sym (ap settled (sym (model_parts s) ∙ went f lists_text s x.result _ x.ensures i ∙ sym (y.ensures.says l) ∙ ap (told h s) j));
      edges = omega (arith, y.ensures.edges, ap (λ l. at (carried l) 0) j);
      nodes = omega (arith, y.ensures.nodes, ap (λ l. at (carried l) 1) j);
    }
