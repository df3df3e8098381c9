-- The promise of `read_model` at each of its ways out, and that a model that was read is printable.
use Prim.Native.Nat.{ℕ, ◌*◌, ◌≤◌, ◌<◌}
use mathlib.Core.Path.{◌≡◌, refl, ap, sym, ◌∙◌, subst}
use mathlib.Core.List.{List, [], ◌∷◌}
use mathlib.Core.Bool.{true, false}
use native.Mathlib.Omega.{arith}
use native.Mathlib.Nat.{mul-le-mul, mul_comm}
use lib.ListN.{length, take, replicate, length-replicate}
use lib.Seq.{length-take-le}
use lib.Dec.{ltb}
use borrow.Author.Tests.{lt-ltb, le-ltb, ltb-false}
use Rattle.lists.proofs.Tests.{or_neither}
use Rattle.values.specs.Limits.{most_states, most_labels, most_transition_numbers, most_node_numbers, most_text}
use Rattle.kripke.specs.Transitions.{count}
use Rattle.model.specs.Model.{Model, node_count}
use Rattle.form.specs.Readers.{Reading}
use Rattle.form.specs.Readers.Reading.{found, ends, refused}
use Rattle.form.specs.Form.{model_text}
use Rattle.form.specs.Print.{Printable}
use Rattle.text.specs.Answers.{Tables, tables, Outcome, settled, too_short, any_short, text_outcome, outcome, number_due, counts_due, tables_due, ModelRead}
use Rattle.text.specs.Answers.Outcome.{model, refusal}
use Rattle.text.specs.Inside.{labelled_in, lists_in, outcome_in, Few, Enough, TextRead}
use Rattle.std.specs.Prelude.{Ok, Err}
use Rattle.values.specs.Refusal.{number_of}
use Rattle.values.specs.declared.refusal.Refusal.{Refusal}
use Rattle.text.specs.declared.Counts.{Counts}
use Rattle.text.specs.declared.tables.Held.{Held}
use Rattle.form.proofs.Printed.{model_back}

pub enough : (L I T N : ℕ) → too_short L I T N ≡ false → Enough L I T N
unfolding too_short
enough L I T N e =
    let p = or_neither (ltb L most_labels) _ e in
    let q = or_neither (ltb I most_states) _ p.1 in
    let r = or_neither (ltb T most_transition_numbers) _ q.1 in
    record { labels = ltb-false L most_labels p.0; initial = ltb-false I most_states q.0; transitions = ltb-false T most_transition_numbers r.0; nodes = ltb-false N most_node_numbers r.1 }

-- no lent table is too short
abbrev pub LongEnough : Tables → Type 0
LongEnough lent = Enough (length lent.labels) (length lent.initial) (length lent.transitions) (length lent.nodes)

pub long_enough : (lent : Tables) → LongEnough lent → any_short lent ≡ false
unfolding too_short
long_enough lent h = simp (le-ltb _ _ h.labels, le-ltb _ _ h.initial, le-ltb _ _ h.transitions, le-ltb _ _ h.nodes)

abbrev pub zeros : ℕ → List ℕ
zeros n = replicate n 0

pub zeros_length : (n : ℕ) → length (zeros n) ≡ n
zeros_length n = length-replicate {A = ℕ} n 0

-- tables of the largest sizes are long enough
abbrev pub largest : Tables
largest = tables (zeros most_labels) (zeros most_states) (zeros most_transition_numbers) (zeros most_node_numbers)

pub largest_long : any_short largest ≡ false
largest_long =
    long_enough largest
    (record {
      labels = omega (arith, zeros_length most_labels);
      initial = omega (arith, zeros_length most_states);
      transitions = omega (arith, zeros_length most_transition_numbers);
      nodes = omega (arith, zeros_length most_node_numbers);
    })

module _ (before : Tables) (text : List ℕ) where
  pub outcome_short : any_short before ≡ true → outcome before text ≡ refusal 24
  unfolding outcome
  outcome_short e = simp e

  -- into tables that are long enough reading comes to what the text comes to
  pub outcome_here : any_short before ≡ false → outcome before text ≡ text_outcome text
  unfolding outcome
  outcome_here e = simp e

  pub outcome_long : any_short before ≡ false → most_text < length text → outcome before text ≡ refusal 18
  unfolding text_outcome
  outcome_long e h = outcome_here e ∙ simp (lt-ltb most_text (length text) h)

  pub outcome_text : any_short before ≡ false → length text ≤ most_text → outcome before text ≡ settled (model_text text)
  unfolding text_outcome
  outcome_text e h = outcome_here e ∙ simp (le-ltb most_text (length text) h)

pub promise_refused : (text : List ℕ) (before : Tables) (e : Refusal) → outcome before text ≡ refusal (number_of e) → ModelRead text before before (Err e)
promise_refused text before e o = record { number = sym (ap number_due o); counts = sym (ap counts_due o); lent = sym (ap (λ (o : Outcome). tables_due o before) o) }

pub promise_model : (text : List ℕ) (before after : Tables) (h : Held) (c : Counts) → outcome before text ≡ outcome_in h (Ok c) → 2 * c.transitions ≤ length h.transitions → 3 * c.nodes ≤ length h.nodes
    → after ≡ tables_due (outcome_in h (Ok c)) before → ModelRead text before after (Ok c)
promise_model text before after h c o x y lent =
    let edges : count (take (2 * c.transitions) h.transitions) ≡ c.transitions = omega (arith, length-take-le (2 * c.transitions) h.transitions x) in
    let nodes : node_count (take (3 * c.nodes) h.nodes) ≡ c.nodes = omega (arith, length-take-le (3 * c.nodes) h.nodes y) in
    let counts : c.states ∷ c.atoms ∷ c.transitions ∷ c.nodes ∷ [] ≡ counts_due (outcome_in h (Ok c)) = cc in
    record { number = sym (ap number_due o); counts = counts ∙ sym (ap counts_due o); lent = lent ∙ sym (ap (λ (x : Outcome). tables_due x before) o) }

-- a model that was read is printable
pub settled_printable : (o : Reading Model) (m : Model) (s : List ℕ) → o ≡ model_text s → model m ≡ settled o → Printable m
settled_printable (found m' rest) m s e q =
    let p : m' ≡ m = cc in
    subst Printable p (model_back s m' rest (sym e)).1
settled_printable ends m s e q = absurd (let z : ◌≡◌ {A = ℕ} 0 1 = cc in omega arith)
settled_printable (refused n) m s e q = absurd (let z : ◌≡◌ {A = ℕ} 0 1 = cc in omega arith)

-- and tables of the largest sizes hold it
pub few : (text : List ℕ) (h : Held) (c : Counts) → TextRead text h (Ok c) → Few c
few text h c r =
    let g = settled_printable (model_text text) (lists_in (labelled_in h.labels h.initial c.states c.atoms) h.transitions h.nodes c.transitions c.nodes) text refl r.says in
    record { states = g.states.most; labels = omega (arith, mul-le-mul g.states.most g.atoms.most, mul_comm c.states c.atoms); transitions = r.edges; nodes = r.nodes }
