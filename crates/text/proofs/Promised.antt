-- What the promise of `read_model` settles: one answer, tables that a refusal leaves, and the texts that are read: the prints of printable models.
use Prim.Native.Nat.{ℕ, ◌≤◌}
use mathlib.Core.Path.{◌≡◌, refl, ap, sym, ◌∙◌}
use mathlib.Core.List.{List, []}
use mathlib.Core.Bool.{Bool, true, false, cond}
use native.Mathlib.Omega.{arith}
use lib.ListN.{length}
use lib.Dec.{ltb}
use Rattle.lists.specs.Entries.{at}
use Rattle.values.specs.Limits.{most_text}
use Rattle.kripke.specs.Transitions.{count}
use Rattle.model.specs.Model.{Model, node_count}
use Rattle.form.specs.Readers.{Reading}
use Rattle.form.specs.Readers.Reading.{found, ends, refused}
use Rattle.form.specs.Form.{model_text}
use Rattle.form.specs.Print.{print, Printable}
use Rattle.text.specs.Answers.{Tables, Outcome, settled, any_short, text_outcome, outcome, counts_of, number_due, counts_due, tables_due, ModelRead, Accepted}
use Rattle.text.specs.Answers.Outcome.{model, refusal}
use Rattle.std.specs.Prelude.{Result, Ok, Err}
use Rattle.values.specs.Refusal.{answer_number}
use Rattle.values.proofs.Refusing.{number_tells, number_some}
use Rattle.values.specs.declared.refusal.Refusal.{Refusal}
use Rattle.text.specs.declared.Counts.{Counts}
use Rattle.form.proofs.Printed.{model_reads, model_back}
use Rattle.text.proofs.Whole.{outcome_here, outcome_text, settled_printable}

-- a number and values say which answer it is
answer_one : (r r' : Result Counts Refusal) → answer_number r ≡ answer_number r' → counts_of r ≡ counts_of r' → r ≡ r'
answer_one (Ok c) (Ok c') n q = ap (λ (l : List ℕ). Ok (record { states = at l 0; atoms = at l 1; transitions = at l 2; nodes = at l 3 })) q
answer_one (Err e) (Err e') n q = ap Err (number_tells e e' n)
answer_one (Ok c) (Err e) n q = absurd (omega (arith, number_some e))
answer_one (Err e) (Ok c) n q = absurd (omega (arith, number_some e))

-- any two permitted answers coincide, the tables too
pub one_answer : (text : List ℕ) (before after after' : Tables) (r r' : Result Counts Refusal) → ModelRead text before after r → ModelRead text before after' r' → (r ≡ r') × (after ≡ after')
one_answer text before after after' r r' p q = (answer_one r r' (p.number ∙ sym q.number) (p.counts ∙ sym q.counts), p.lent ∙ sym q.lent)

-- a refusal changes no table
pub refusal_leaves : (text : List ℕ) (before after : Tables) (e : Refusal) → ModelRead text before after (Err e) → after ≡ before
refusal_leaves text before after e p = p.lent ∙ same (outcome before text) p.counts
  where
    same : (o : Outcome) → [] ≡ counts_due o → tables_due o before ≡ before
    same (refusal m) q = refl
    same (model m) q = absurd (let z : ◌≡◌ {A = ℕ} 0 1 = cc in omega arith)

outcome_print : (before : Tables) (m : Model) → Printable m → any_short before ≡ false → length (print m) ≤ most_text → outcome before (print m) ≡ model m
outcome_print before m g h l = outcome_text before (print m) h l ∙ ap settled (model_reads m g)

-- how many of each a model has
abbrev pub counts : Model → Counts
counts m = record { states = m.states; atoms = m.atoms; transitions = count m.transitions; nodes = node_count m.nodes }

-- `read_model` reads the print of a printable model as that model, where no table is too short and the print not too long
pub print_read : (before after : Tables) (m : Model) (r : Result Counts Refusal) → Printable m → any_short before ≡ false → length (print m) ≤ most_text → ModelRead (print m) before after r
    → (r ≡ Ok (counts m)) × (after ≡ tables_due (model m) before)
print_read before after m r g h l p =
    let e = outcome_print before m g h l in (
      answer_one r (Ok (counts m)) (p.number ∙ ap number_due e) (p.counts ∙ ap counts_due e),
      p.lent ∙ ap (λ (o : Outcome). tables_due o before) e,
    )

-- whatever is accepted is the print of what was read
pub read_print : (text : List ℕ) (before after : Tables) (c : Counts) → ModelRead text before after (Ok c) → Accepted text before after c
unfolding outcome text_outcome
read_print text before after c p =
    by (any_short before) (ltb most_text (length text)) (outcome before text) refl p.counts p.lent
  where
    no_counts : [] ≡ counts_of (Ok c) → ⊥
    no_counts q = let z : ◌≡◌ {A = ℕ} 0 1 = cc in omega arith

    all : (o : Reading Model) → model_text text ≡ o → counts_of (Ok c) ≡ counts_due (settled o) → after ≡ tables_due (settled o) before → Accepted text before after c
    all (found m rest) q k l = let w = model_back text m rest q in record { held = m; printed = w.0; printable = w.1; counts = k; lent = l }
    all ends q k l = absurd (no_counts (sym k))
    all (refused n) q k l = absurd (no_counts (sym k))

    by : (x y : Bool) (o : Outcome) → o ≡ cond x (refusal 24) (cond y (refusal 18) (settled (model_text text)))
        → counts_of (Ok c) ≡ counts_due o → after ≡ tables_due o before → Accepted text before after c
    by true y o q k l = absurd (no_counts (sym (k ∙ ap counts_due q)))
    by false true o q k l = absurd (no_counts (sym (k ∙ ap counts_due q)))
    by false false o q k l = all (model_text text) refl (k ∙ ap counts_due q) (l ∙ ap (λ (x : Outcome). tables_due x before) q)

-- into tables that are long enough reading comes to what the text comes to
pub read_comes : (text : List ℕ) (before after : Tables) (r : Result Counts Refusal) → any_short before ≡ false → ModelRead text before after r
    → (answer_number r ≡ number_due (text_outcome text)) × (counts_of r ≡ counts_due (text_outcome text)) × (after ≡ tables_due (text_outcome text) before)
read_comes text before after r e p =
    let q = outcome_here before text e in
    (p.number ∙ ap number_due q, p.counts ∙ ap counts_due q, p.lent ∙ ap (λ (o : Outcome). tables_due o before) q)

-- a model that a text comes to is printable
pub outcome_printable : (text : List ℕ) (m : Model) → text_outcome text ≡ model m → Printable m
unfolding text_outcome
outcome_printable text m e =
    by (ltb most_text (length text)) (model_text text) refl e
  where
    by : (y : Bool) (o : Reading Model) → model_text text ≡ o → cond y (refusal 18) (settled o) ≡ model m → Printable m
    by true o q e = absurd (let z : ◌≡◌ {A = ℕ} 0 1 = cc in omega arith)
    by false o q e = settled_printable o m text (sym q) (sym e)
