-- What is written of a model that was judged: the rows of its nodes by their meaning, each with a line, and the model's verdict.
use Prim.Native.Nat.{ℕ, zero, suc, ◌+◌, ◌≤◌, ◌<◌}
use mathlib.Core.Path.{◌≡◌, refl, ap, sym, subst, ◌∙◌}
use mathlib.Core.List.{List, [], ◌∷◌, map}
use mathlib.Core.Bool.{Bool, true, false, not, ◌&&◌}
use native.Mathlib.Omega.{arith}
use native.Mathlib.Nat.{add-zero, zero-add}
use lib.ListN.{length, get_or}
use lib.Dec.{leb}
use borrow.Author.Tests.{lt-ltb, le-leb, ne_eqb}
use Rattle.lists.specs.Entries.{at}
use Rattle.lists.proofs.Tests.{and_both}
use Rattle.values.specs.Values.{top}
use Rattle.values.specs.Limits.{most_states, most_nodes}
use Rattle.values.specs.Rows.{bad_row, row_in, row_values}
use Rattle.values.specs.Answers.{verdict}
use Rattle.values.specs.Refusal.{answer_number}
use Rattle.kripke.proofs.Refusals.{accepted}
use Rattle.model.specs.Model.{Model, node_count}
use Rattle.model.proofs.Fine.{judge_fine}
use Rattle.ctl.specs.Rows.{rows_of, model_verdict}
use Rattle.ctl.specs.Answers.{Judged, number_due}
use Rattle.std.specs.Prelude.{Ok, Err}
use Rattle.ctl.proofs.Held.{as_many, row_held}
use Rattle.ctl.proofs.OneAnswer.{judging_keeps, judging_number, judging_rows, judged_verdict}
use Rattle.ctl.proofs.Related.{small, verdict_related}
use Rattle.text.specs.Answers.{Outcome, text_outcome}
use Rattle.text.specs.Answers.Outcome.{model, refusal}
use Rattle.answer.specs.Lines.{answer_line, row_line, model_line}
use Rattle.answer.specs.Answers.{line_if, model_due}
use Rattle.answer.specs.Answers.Due.{line}
use Rattle.sheet.specs.declared.Sheet.{Sheet}
use Rattle.sheet.specs.Answers.{sheet_of, ModelJudged, Judges, TextJudged}
use Rattle.sheet.specs.Output.{row_at, rows_from, output, whole}

-- the verdict of a model with labels up to 2 has its line
model_shown : (m : Model) → ((i : ℕ) → at m.labels i ≤ top) → model_due (model_verdict m) ≡ line (model_line (model_verdict m))
model_shown m h = shown (model_verdict m) (verdict_related (λ (a b : ℕ). a ≤ top) small m m.labels h)
  where
    shown : (v : ℕ) → v ≤ top → model_due v ≡ line (model_line v)
    shown v h = rw (le-leb v top h)

-- a row that stands in the space has its line
row_shown : (S : ℕ) (space row : List ℕ) (k : ℕ) → S ≤ most_states → k < most_nodes → (bad_row S (row_in S space k) ≡ false) × (row_values S (row_in S space k) ≡ row) → row_at S space k ≡ line (row_line row)
unfolding row_at
row_shown S space row k few early stands =
    let valid : (leb S most_states && not (bad_row S (row_in S space k))) ≡ true = and_both _ _ (le-leb S most_states few) (ap not stands.0) in
    rw (lt-ltb k most_nodes early) (ap (λ (b : Bool). line_if b (row_line (row_values S (row_in S space k)))) valid ∙ ap (λ (r : List ℕ). line (row_line r)) stands.1)

rows_shown : (S : ℕ) (space : List ℕ) (j n : ℕ) (rows : List (List ℕ)) → length rows ≡ n → ((i : ℕ) → i < n → row_at S space (j + i) ≡ line (row_line (get_or rows i [])))
    → rows_from S space j n ≡ map (λ (row : List ℕ). line (row_line row)) rows
unfolding rows_from
rows_shown S space j zero [] e each = refl
rows_shown S space j zero (row ∷ rows) e each = absurd (omega arith)
rows_shown S space j (suc n) [] e each = absurd (omega arith)
rows_shown S space j (suc n) (row ∷ rows) e each =
    let first : row_at S space j ≡ line (row_line row) = rw add-zero at (each 0 (omega arith)) in
    let rest = rows_shown S space (suc j) n rows (omega arith) (λ i h. let s : suc j + i ≡ j + suc i = omega arith in ap (row_at S space) s ∙ each (suc i) (omega arith)) in
    cc

pub number_of_lem : (S N : ℕ) (a : Judged) → answer_number a ≡ (sheet_of S N a).number
number_of_lem S N (Ok v) = refl
number_of_lem S N (Err n) = refl

-- the sheet's number is the one that judging is due
pub model_number : (m : Model) (before after : List ℕ) (r : Sheet) → ModelJudged m before after r → r.number ≡ number_due m before
model_number m before after r p = ap (λ (x : Sheet). x.number) p.sheet ∙ sym (number_of_lem m.states (node_count m.nodes) p.answer) ∙ judging_number m before after p.answer p.judging

module _ (m : Model) (before after : List ℕ) (r : Sheet) (p : ModelJudged m before after r) (z : r.number ≡ 0) where
  none_refused : number_due m before ≡ 0
  none_refused = sym (model_number m before after r p) ∙ z

  pub sheet_shown : r ≡ sheet_of m.states (node_count m.nodes) (Ok (verdict (model_verdict m)))
  sheet_shown = p.sheet ∙ ap (sheet_of m.states (node_count m.nodes)) (judged_verdict m before after p.answer p.judging none_refused)

  pub output_shown : output r after ≡ whole (rows_of m) (model_verdict m)
  unfolding output whole
  output_shown =
      let S : ℕ = m.states in
      let N : ℕ = node_count m.nodes in
      let fine = judge_fine m (length before) none_refused in
      let few : S ≤ most_states = (accepted S m.transitions fine.table).few in
      let stand = judging_rows m before after p.answer p.judging (judging_number m before after p.answer p.judging ∙ none_refused) in
      let each : (i : ℕ) → i < N → row_at S after (0 + i) ≡ line (row_line (get_or (rows_of m) i [])) = λ i h. ap (row_at S after) (zero-add i) ∙ row_shown S after (get_or (rows_of m) i []) i few (omega (arith, fine.few)) (row_held m before none_refused after stand i h) in
      let shown = rows_shown S after 0 N (rows_of m) (as_many m before none_refused after stand) each in
      let model = model_shown m fine.small in
      ap (λ (x : Sheet). output x after) sheet_shown ∙ cc

-- of a text that was read and judged without a refusal, the whole answer is that of the meaning's rows and verdict, a line each
pub answer_shown : (text : List ℕ) (m : Model) (before after : List ℕ) (r : Sheet) → text_outcome text ≡ model m → TextJudged text before after r → r.number ≡ 0 → output r after ≡ whole (rows_of m) (model_verdict m)
answer_shown text m before after r e j z = output_shown m before after r (subst (λ (o : Outcome). Judges o before after r) e j) z

-- of any other text it is the number alone, and the verdict space stays
pub refused_keeps : (o : Outcome) (before after : List ℕ) (r : Sheet) → Judges o before after r → (r.number ≡ 0 → ⊥) → after ≡ before
refused_keeps (refusal n) before after r p h = p.1
refused_keeps (model m) before after r p h =
    judging_keeps m before after p.answer p.judging (λ z. h (ap (λ (x : Sheet). x.number) p.sheet ∙ sym (number_of_lem _ _ p.answer) ∙ z))

pub text_keeps : (text before after : List ℕ) (r : Sheet) → TextJudged text before after r → (r.number ≡ 0 → ⊥) → after ≡ before
text_keeps text = refused_keeps (text_outcome text)

pub refusal_shown : (r : Sheet) (space : List ℕ) → (r.number ≡ 0 → ⊥) → output r space ≡ line (answer_line r.number) ∷ []
unfolding output
refusal_shown r space h = rw (ne_eqb r.number 0 h)
