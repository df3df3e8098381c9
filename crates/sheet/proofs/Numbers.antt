-- Numbers that a text is never refused with in a space for the largest model: reading gives none of 3, 4 and 13, and what it reads has labels
-- that fit and rows that have room.
use mathlib.Core.Path.{◌≡◌, refl, sym, ap, ◌∙◌, subst}
use Prim.Native.Nat.{ℕ, ◌≤◌}
use mathlib.Core.List.{List}
use mathlib.Core.Bool.{Bool, true, false, cond, not, ◌||◌, true≢false}
use mathlib.Core.Logic.{inl, inr}
use native.Mathlib.Omega.{arith}
use lib.ListN.{length}
use lib.Dec.{eqb, ltb}
use borrow.Author.Tests.{le-ltb}
use Rattle.values.specs.Rows.{most_verdicts, row_begin}
use Rattle.values.specs.Values.{top}
use Rattle.model.specs.Labels.{Labels}
use Rattle.model.specs.Model.{Model, node_count}
use Rattle.model.specs.Refusals.{judge_refusal}
use Rattle.values.specs.Limits.{most_text}
use Rattle.text.specs.Answers.{Outcome, settled, text_outcome}
use Rattle.form.specs.Form.{model_text}
use Rattle.form.specs.Readers.{Reading}
use Rattle.form.specs.Readers.Reading.{found, ends, refused}
use Rattle.form.proofs.Refusals.{Only, model_only}
use Rattle.text.specs.Answers.Outcome.{model, refusal}
use Rattle.form.specs.Print.{Printable}
use Rattle.sheet.specs.declared.Sheet.{Sheet}
use Rattle.sheet.specs.Answers.{Judges, TextJudged}
use Rattle.lists.proofs.Entries.{all_at}
use Rattle.model.proofs.Labels.{fine_tests}
use Rattle.model.proofs.Lowest.{judge_among}
use Rattle.sheet.proofs.Meaning.{model_number}
use Rattle.text.proofs.Promised.{outcome_printable}
use Rattle.values.proofs.StoredRows.{space_within}

-- neither 3 nor 4 nor 13
spared : ℕ → Bool
spared n = not (eqb n 3 || (eqb n 4 || eqb n 13))

-- what holds of each number of reading holds of every refusal that a text comes to
pub text_numbers : (P : ℕ → Type 0) → P 19 → P 1 → P 2 → P 6 → P 10 → P 18 → (text : List ℕ) (n : ℕ) → text_outcome text ≡ refusal n → P n
unfolding text_outcome
text_numbers P form states atoms edges nodes size text n e =
    by (ltb most_text (length text)) (model_text text) (model_only P form states atoms edges nodes text) e
  where
    by : (y : Bool) (o : Reading Model) → Only P o → cond y (refusal 18) (settled o) ≡ refusal n → P n
    by true o h q = let s : 18 ≡ n = cc in subst P s size
    by false (found m rest) h q = absurd (let z : ◌≡◌ {A = ℕ} 0 1 = cc in omega arith)
    by false ends h q = let s : 19 ≡ n = cc in subst P s form
    by false (refused m) h q = let s : m ≡ n = cc in subst P s h

pub labels_fit : (m : Model) → Printable m → Labels m
labels_fit m g = record { size = g.labels.size; small = λ i h. all_at (λ (v : ℕ). v ≤ top) m.labels g.labels.each i (omega (arith, g.labels.size)) }

judged_spared : (m : Model) (room : ℕ) → Printable m → most_verdicts ≤ room → spared (judge_refusal m room) ≡ true
unfolding spared
judged_spared m room g h =
    let tests = fine_tests m (labels_fit m g) in
    let fits = le-ltb room (row_begin m.states (node_count m.nodes)) (omega (arith, space_within m.states (node_count m.nodes) g.states.most g.nodes.count.most)) in
    judge_among spared refl m room (inl refl, (inl refl, (inr tests.0, (inr tests.1, (inl refl, (inl refl, (inl refl, (inl refl, (inl refl, (inl refl, (inl refl, (inl refl, (inr fits, (inl refl, tt))))))))))))))

by_outcome : (text : List ℕ) (o : Outcome) → text_outcome text ≡ o → (before after : List ℕ) (r : Sheet) → most_verdicts ≤ length before → Judges o before after r → spared r.number ≡ true
unfolding spared
by_outcome text (model m) e before after r h p = ap spared (model_number m before after r p) ∙ judged_spared m (length before) (outcome_printable text m e) h
by_outcome text (refusal n) e before after r h p = ap (λ (x : Sheet). spared x.number) p.0 ∙ text_numbers (λ (x : ℕ). spared x ≡ true) refl refl refl refl refl refl text n e

pub never_these : (text before after : List ℕ) (r : Sheet) → most_verdicts ≤ length before → TextJudged text before after r → (r.number ≡ 3 → ⊥) × (r.number ≡ 4 → ⊥) × (r.number ≡ 13 → ⊥)
unfolding spared
never_these text before after r h p =
    let s = by_outcome text (text_outcome text) refl before after r h p in
    (λ e. true≢false (sym s ∙ ap spared e), λ e. true≢false (sym s ∙ ap spared e), λ e. true≢false (sym s ∙ ap spared e))
