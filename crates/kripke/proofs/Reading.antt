-- What `read_tables` answers: the lowest of 1, 6 to 9 and 14, and otherwise what the tables hold; the causes of a question in their parts.
use mathlib.Core.Path.{◌≡◌, sym, ◌∙◌}
use Prim.Native.Nat.{ℕ, ◌≤◌, ◌<◌}
use mathlib.Core.List.{List, [], ◌∷◌, ◌++◌}
use mathlib.Core.Bool.{Bool, true, false, cond, ◌||◌}
use mathlib.Core.Logic.{◌⊎◌, ⊎_elim}
use native.Mathlib.Omega.{arith}
use native.Mathlib.Nat.{eq-zero-or-pos}
use lib.ListN.{length}
use lib.Dec.{eqb}
use borrow.Author.Tests.{ne_eqb}
use Rattle.lists.specs.Causes.{Cause, Rising, cause, refusal_of}
use Rattle.lists.proofs.Causes.{none_refused, passed, refusal_append, refused, skipped}
use Rattle.lists.proofs.Tests.{or_left, or_neither, or_none, or_right}
use Rattle.kripke.specs.Answers.{TablesHold}
use Rattle.kripke.specs.Refusals.{question_causes, table_causes, table_refusal}
use Rattle.values.specs.Rows.{bad_row, no_row}
use Rattle.values.specs.Limits.{most_states}
use Rattle.values.specs.Refusal.{number_of}
use Rattle.values.specs.declared.refusal.Refusal.{Refusal}
use Rattle.values.proofs.Refusing.{passed_early, refused_early}
use Rattle.kripke.proofs.Read.{begun}
use Rattle.kripke.proofs.Refusals.{accepted, table_rises}
use Rattle.values.proofs.StoredRows.{row_parts, row_some, row_not_read, row_read_lem}
use Rattle.kripke.specs.declared.tables.Tables.{Tables}
use Rattle.kripke.specs.Inside.{Taken}

pub question_rises : (S : ℕ) (es left right : List ℕ) → Rising 0 (question_causes S es left right)
question_rises S es left right = omega arith

-- what was read has a value for each state
pub rows_long : {S : ℕ} {es left right : List ℕ} {t : Tables} → Taken S es left right t → (S ≤ length t.left) × (S ≤ length t.right)
rows_long k = (omega (arith, k.left_row.few, k.left_row.long), omega (arith, k.right_row.few, k.right_row.long))

-- the parts of a question in turn: the tables, then the rows
pub question_table : (S : ℕ) (es left right : List ℕ) (e : Refusal) → table_refusal S es ≡ number_of e → refusal_of (question_causes S es left right) ≡ number_of e
unfolding table_refusal
question_table S es left right e q = refused_early (table_causes S es) (cause 14 (bad_row S left || bad_row S right) ∷ []) e q

pub question_rows : (S : ℕ) (es left right : List ℕ) → table_refusal S es ≡ 0 → (no_row S left ≡ true) ⊎ (no_row S right ≡ true) → refusal_of (question_causes S es left right) ≡ 14
unfolding table_refusal
question_rows S es left right z h =
    let few : S ≤ most_states = (accepted S es z).few in
    passed_early (table_causes S es) (cause 14 (bad_row S left || bad_row S right) ∷ []) (table_rises S es) z
    ∙ refused 14 _ [] (⊎_elim (λ l. or_left _ (bad_row S right) (row_not_read S left l few)) (λ r. or_right (bad_row S left) _ (row_not_read S right r few)) h)

pub question_read : (S : ℕ) (es left right : List ℕ) → table_refusal S es ≡ 0 → no_row S left ≡ false → no_row S right ≡ false → refusal_of (question_causes S es left right) ≡ 0
unfolding table_refusal
question_read S es left right z l r =
    passed_early (table_causes S es) (cause 14 (bad_row S left || bad_row S right) ∷ []) (table_rises S es) z
    ∙ skipped 14 _ [] (or_none _ _ (row_parts S left l).1 (row_parts S right r).1) ∙ none_refused

-- a question that is not refused: its tables are not, and its rows are rows
module _ (S : ℕ) (es left right : List ℕ) (none : refusal_of (question_causes S es left right) ≡ 0) where
  parts : refusal_of (question_causes S es left right) ≡ cond (eqb (refusal_of (table_causes S es)) 0) (refusal_of (cause 14 (bad_row S left || bad_row S right) ∷ [])) (refusal_of (table_causes S es))
  parts = refusal_append 0 (table_causes S es) (cause 14 (bad_row S left || bad_row S right) ∷ []) (table_rises S es)

  pub table_fine : table_refusal S es ≡ 0
  unfolding table_refusal
  table_fine = ⊎_elim (λ z. z) (λ (p : 0 < refusal_of (table_causes S es)). absurd (some p)) (eq-zero-or-pos (refusal_of (table_causes S es)))
    where
      some : 0 < refusal_of (table_causes S es) → ⊥
      some p = let e : refusal_of (question_causes S es left right) ≡ refusal_of (table_causes S es) = parts ∙ rw (ne_eqb (refusal_of (table_causes S es)) 0 (λ z. omega arith)) in omega arith

  rows_fine : (bad_row S left ≡ false) × (bad_row S right ≡ false)
  unfolding table_refusal
  rows_fine = or_neither (bad_row S left) (bad_row S right) (passed 13 _ [] (sym (parts ∙ rw table_fine) ∙ none)).0

-- and so it is where they are
pub question_fine : (S : ℕ) (es left right : List ℕ) → table_refusal S es ≡ 0 → bad_row S left ≡ false → bad_row S right ≡ false → refusal_of (question_causes S es left right) ≡ 0
unfolding table_refusal
question_fine S es left right z l r = refusal_append 0 (table_causes S es) (cause 14 (bad_row S left || bad_row S right) ∷ []) (table_rises S es) ∙ rw z (skipped 14 _ [] (or_none _ _ l r) ∙ none_refused)

-- what a caller has where nothing is refused
pub tables_taken : {S : ℕ} {es left right : List ℕ} {t : Tables} → refusal_of (question_causes S es left right) ≡ 0 → TablesHold S es left right t → Taken S es left right t
tables_taken {S} {es} {left} {right} {t} none h =
    let table = table_fine S es left right none in
    let few = (accepted S es table).few in
    let rows = rows_fine S es left right none in
    record {
      ready = begun S es t.begins table h.graph;
      left_row = row_read_lem S left t.left (row_some S left few rows.0) h.left_row;
      right_row = row_read_lem S right t.right (row_some S right few rows.1) h.right_row;
    }

-- the causes with 15 behind them: refused before it, with it, or not at all
module _ (S : ℕ) (es left right : List ℕ) (b : Bool) where
  abbrev with_15 : List Cause
  with_15 = question_causes S es left right ++ (cause 15 b ∷ [])

  pub before_15 : (e : Refusal) → refusal_of (question_causes S es left right) ≡ number_of e → refusal_of with_15 ≡ number_of e
  before_15 e q = refused_early (question_causes S es left right) (cause 15 b ∷ []) e q

  pub given_15 : refusal_of (question_causes S es left right) ≡ 0 → b ≡ true → refusal_of with_15 ≡ 15
  given_15 z t = passed_early (question_causes S es left right) (cause 15 b ∷ []) (question_rises S es left right) z ∙ refused 15 b [] t

  pub not_15 : refusal_of (question_causes S es left right) ≡ 0 → b ≡ false → refusal_of with_15 ≡ 0
  not_15 z f = passed_early (question_causes S es left right) (cause 15 b ∷ []) (question_rises S es left right) z ∙ skipped 15 b [] f ∙ none_refused
