-- A model that was read stands in the fronts of the tables that hold it, and `judge_text` permits one answer.
use Prim.Native.Nat.{ℕ, ◌*◌, ◌≤◌}
use mathlib.Core.Path.{◌≡◌, refl, ap, sym, ◌∙◌}
use mathlib.Core.List.{List, []}
use mathlib.Core.Bool.{false}
use native.Mathlib.Omega.{arith}
use lib.ListN.{length, take, drop, length-append}
use lib.Seq.{take_at}
use Rattle.lists.specs.Rows.{fill}
use Rattle.kripke.specs.Transitions.{count}
use Rattle.model.specs.Model.{Model, as_model, node_count}
use Rattle.std.specs.Prelude.{Ok, Err}
use Rattle.values.specs.Refusal.{number_of}
use Rattle.values.specs.declared.refusal.Refusal.{Refusal}
use Rattle.ctl.proofs.OneAnswer.{judging_one}
use Rattle.form.specs.Print.{Printable}
use Rattle.text.specs.Answers.{Tables, tables, Outcome, any_short, text_outcome, counts_of, number_due, counts_due, tables_due, ModelRead}
use Rattle.text.specs.Answers.Outcome.{model, refusal}
use Rattle.text.proofs.Promised.{read_comes, outcome_printable}
use Rattle.sheet.specs.declared.Sheet.{Sheet}
use Rattle.sheet.specs.declared.judging.Held.{Held}
use Rattle.sheet.specs.Inside.{HeldFits, model_of}
use Rattle.sheet.specs.Answers.{sheet_of, Judges, TextJudged}

-- what fills the front of a table fits into it, and is found there
pub front : (xs before table : List ℕ) (n : ℕ) → length xs ≡ n → table ≡ fill xs before → n ≤ length table
front xs before table n e t = omega (arith, length-append xs (drop (length xs) before), ap length t)

pub found_there : (xs before table : List ℕ) (n : ℕ) → length xs ≡ n → table ≡ fill xs before → take n table ≡ xs
found_there xs before table n e t = ap (take n) t ∙ take_at xs (drop (length xs) before) n e

-- by what the text comes to: the model is held, and its tables are long enough for it
held_at : (o : Outcome) (lent : Tables) (h : Held) → ((m : Model) → o ≡ model m → Printable m)
    → counts_of (Ok h.counts) ≡ counts_due o → tables h.labels h.initial h.transitions h.nodes ≡ tables_due o lent → HeldFits h × (o ≡ model (model_of h))
held_at (refusal n) lent h good c l = absurd (let z : ◌≡◌ {A = ℕ} 0 1 = cc in omega arith)
held_at (model m) lent h good c l =
    let g = good m refl in
    let s : h.counts.states ≡ m.states = cc in
    let a : h.counts.atoms ≡ m.atoms = cc in
    let e : h.counts.transitions ≡ count m.transitions = cc in
    let n : h.counts.nodes ≡ node_count m.nodes = cc in
    let labels : length m.labels ≡ h.counts.states * h.counts.atoms = g.labels.size ∙ cc in
    let initial : length m.initial ≡ h.counts.states = g.initial.size ∙ sym s in
    let transitions : length m.transitions ≡ 2 * h.counts.transitions = g.transitions.numbers.size ∙ ap (λ (k : ℕ). 2 * k) (sym e) in
    let nodes : length m.nodes ≡ 3 * h.counts.nodes = g.nodes.numbers.size ∙ ap (λ (k : ℕ). 3 * k) (sym n) in
    let in_labels = ap (λ (t : Tables). t.labels) l in
    let in_initial = ap (λ (t : Tables). t.initial) l in
    let in_transitions = ap (λ (t : Tables). t.transitions) l in
    let in_nodes = ap (λ (t : Tables). t.nodes) l in
    let found_labels = found_there m.labels lent.labels h.labels _ labels in_labels in
    let found_initial = found_there m.initial lent.initial h.initial _ initial in_initial in
    let found_transitions = found_there m.transitions lent.transitions h.transitions _ transitions in_transitions in
    let found_nodes = found_there m.nodes lent.nodes h.nodes _ nodes in_nodes in (
      record {
        labels = front m.labels lent.labels h.labels _ labels in_labels;
        initial = front m.initial lent.initial h.initial _ initial in_initial;
        transitions = front m.transitions lent.transitions h.transitions _ transitions in_transitions;
        nodes = front m.nodes lent.nodes h.nodes _ nodes in_nodes;
      },
      sym (λ i. model (as_model (s i) (a i) (found_labels i) (found_initial i) (found_transitions i) (found_nodes i))),
    )

pub text_held : (text : List ℕ) (lent : Tables) (h : Held) → any_short lent ≡ false → ModelRead text lent (tables h.labels h.initial h.transitions h.nodes) (Ok h.counts)
    → HeldFits h × (text_outcome text ≡ model (model_of h))
text_held text lent h long p = let c = read_comes text lent _ (Ok h.counts) long p in held_at (text_outcome text) lent h (outcome_printable text) c.1 c.2

-- and a refusal is the one that the text comes to
refused_at : (o : Outcome) (e : Refusal) → number_of e ≡ number_due o → [] ≡ counts_due o → o ≡ refusal (number_of e)
refused_at (refusal n) e q c = ap refusal (sym q)
refused_at (model m) e q c = absurd (let z : ◌≡◌ {A = ℕ} 0 1 = cc in omega arith)

pub text_refused : (text : List ℕ) (lent lent' : Tables) (e : Refusal) → any_short lent ≡ false → ModelRead text lent lent' (Err e) → text_outcome text ≡ refusal (number_of e)
text_refused text lent lent' e long p = let c = read_comes text lent lent' (Err e) long p in refused_at (text_outcome text) e c.0 c.1

-- any two permitted answers coincide, the verdict space too
pub judges_one : (o : Outcome) (before after after' : List ℕ) (r r' : Sheet) → Judges o before after r → Judges o before after' r' → (r ≡ r') × (after ≡ after')
judges_one (model m) before after after' r r' p q =
    let same = judging_one m before after after' p.answer q.answer p.judging q.judging in
    (p.sheet ∙ ap (sheet_of m.states (node_count m.nodes)) same.0 ∙ sym q.sheet, same.1)
judges_one (refusal n) before after after' r r' p q = (p.0 ∙ sym q.0, p.1 ∙ sym q.1)

pub text_judged_one : (text before after after' : List ℕ) (r r' : Sheet) → TextJudged text before after r → TextJudged text before after' r' → (r ≡ r') × (after ≡ after')
text_judged_one text = judges_one (text_outcome text)
