-- The public calls: what was read of the tables, the tests of 15, and what was found on the values give the promise on the stored rows.
use Rattle.std.specs.Prelude.{Ok, Err}
use Rattle.values.specs.Refusal.{number_of}
use Rattle.values.specs.declared.refusal.Refusal.{Refusal}
use Rattle.values.specs.declared.refusal.Refusal.TheVariants.{LevelOrStart, NotShortest}
use Rattle.values.proofs.Refusing.{is_refused}
use Rattle.std.specs.Prelude.{IsErrAnd}
use Rattle.kripke.specs.Refusals.{question_causes}
use Rattle.kripke.specs.Answers.{TablesHold}
use Rattle.paths.specs.Answers.{CheckAnswer}
use Rattle.paths.specs.Answers.{FirstAnswer, NextAnswer}
use mathlib.Core.Path.{◌≡◌, sym, ◌∙◌, subst}
use Prim.Native.Nat.{ℕ}
use mathlib.Core.List.{List, [], ◌∷◌}
use mathlib.Core.Bool.{Bool, true, false, ◌||◌, true≢false}
use mathlib.Core.Logic.{inl, inr}
use native.Mathlib.Omega.{arith}
use lib.ListN.{drop}
use lib.Dec.{leb}
use Rattle.lists.specs.Entries.{at}
use Rattle.lists.specs.Causes.{refusal_of}
use Rattle.lists.proofs.Tests.{or_left, or_none, or_right}
use Rattle.kripke.specs.declared.tables.Tables.{Tables}
use Rattle.paths.specs.Questions.{From, LeftHolds, Question, Reaches, RightHolds, Witness, asked}
use Rattle.paths.specs.Refusals.{bad_level, causes, first_causes}
use Rattle.paths.specs.Answers.{CheckPromise, FirstPromise, NextPromise}
use Rattle.paths.specs.Inside.{Far, Faultless, FirstWorked, Measured, NextWorked}
use Rattle.kripke.specs.Inside.{Taken}
use Rattle.paths.proofs.Answering.{check_no, check_refused, check_yes, first_found, first_refused, next_found, next_refused, next_wrong}
use Rattle.paths.proofs.Breaks.{faultless, no_fault}
use Rattle.paths.proofs.Places.{from_map, reaches_row, row_reaches, whole}
use Rattle.kripke.proofs.Reading.{before_15, given_15, not_15, tables_taken}
use Rattle.paths.proofs.Shortests.{far_map}

module _ (S : ℕ) (es left right : List ℕ) (level : ℕ) where
  abbrev q : Question
  q = asked S es left right level

  -- refused by the tables
  module _ (e : Refusal) (is : refusal_of (question_causes S es left right) ≡ number_of e) where
    pub first_tables : (start : ℕ) (space : List ℕ) (r : FirstAnswer) → IsErrAnd r (λ y. y ≡ e) → FirstPromise q start space space r
    first_tables start space r h = subst (FirstPromise q start space space) (sym (is_refused r e h)) (first_refused q start space e (before_15 S es left right (bad_level level || leb S start) e is))

    pub next_tables : (path : List ℕ) (r : NextAnswer) → IsErrAnd r (λ y. y ≡ e) → NextPromise q path path r
    next_tables path r h = subst (NextPromise q path path) (sym (is_refused r e h)) (next_refused q path e (before_15 S es left right (bad_level level) e is))

    pub check_tables : (path : List ℕ) (r : CheckAnswer) → IsErrAnd r (λ y. y ≡ e) → CheckPromise q path r
    check_tables path r h = subst (CheckPromise q path) (sym (is_refused r e h)) (check_refused q path e (before_15 S es left right (bad_level level) e is))

  module _ (t : Tables) (zero : refusal_of (question_causes S es left right) ≡ 0) (holds : TablesHold S es left right t) where
    -- refused by the level or the start
    pub first_level : (start : ℕ) (space : List ℕ) → bad_level level ≡ true → FirstPromise q start space space (Err LevelOrStart)
    first_level start space e = first_refused q start space LevelOrStart (given_15 S es left right (bad_level level || leb S start) zero (or_left _ _ e))

    pub first_start : (start : ℕ) (space : List ℕ) → leb S start ≡ true → FirstPromise q start space space (Err LevelOrStart)
    first_start start space e = first_refused q start space LevelOrStart (given_15 S es left right (bad_level level || leb S start) zero (or_right (bad_level level) _ e))

    pub next_level : (path : List ℕ) → bad_level level ≡ true → NextPromise q path path (Err LevelOrStart)
    next_level path e = next_refused q path LevelOrStart (given_15 S es left right (bad_level level) zero e)

    pub check_level : (path : List ℕ) → bad_level level ≡ true → CheckPromise q path (Err LevelOrStart)
    check_level path e = check_refused q path LevelOrStart (given_15 S es left right (bad_level level) zero e)

    taken : Taken S es left right t
    taken = tables_taken zero holds

    -- the values that were read say what the stored rows say
    far_stored : (start : ℕ) (d : List ℕ) → Measured S es t.left t.right level start d → Far es (LeftHolds q) (RightHolds q) S start d
    far_stored start d m =
        far_map es _ _ (LeftHolds q) (RightHolds q) S start d (row_reaches S level left t.left taken.left_row.here) (row_reaches S level right t.right taken.right_row.here) (reaches_row S level left t.left taken.left_row.here)
        (reaches_row S level right t.right taken.right_row.here) m

    unbroken : (p : List ℕ) → Faultless S es (at t.left) (at t.right) level p true → Witness q p
    unbroken p f =
        let w = faultless S es (at t.left) (at t.right) level p f.0 f.1 in
        subst (Witness q) (sym (whole p f.0)) (from_map es _ _ (LeftHolds q) (RightHolds q) (row_reaches S level left t.left taken.left_row.here) (row_reaches S level right t.right taken.right_row.here) (at p 0) (drop 1 p) w)

    witness_values : (p : List ℕ) → Witness q p → From es (Reaches S level (at t.left)) (Reaches S level (at t.right)) (at p 0) (drop 1 p)
    witness_values [] w = absurd w
    witness_values (x ∷ p) w = from_map es (LeftHolds q) (RightHolds q) _ _ (reaches_row S level left t.left taken.left_row.here) (reaches_row S level right t.right taken.right_row.here) x p w

    broken : (p : List ℕ) → Faultless S es (at t.left) (at t.right) level p false → Witness q p → ⊥
    broken [] f w = w
    broken (x ∷ p) (inl e) w = omega (arith, e)
    broken (x ∷ p) (inr f) w = true≢false (sym f.2 ∙ no_fault S es (at t.left) (at t.right) level (x ∷ p) (witness_values (x ∷ p) w) f.0 f.1)

    -- the level is one
    module _ (fits : bad_level level ≡ false) where
      fine : refusal_of (causes q) ≡ 0
      fine = not_15 S es left right (bad_level level) zero fits

      pub check_worked : (p : List ℕ) (b : Bool) → Faultless S es (at t.left) (at t.right) level p b → CheckPromise q p (Ok b)
      check_worked p true f = check_yes q p fine (unbroken p f)
      check_worked p false f = check_no q p fine (broken p f)

      pub next_worked : (p after : List ℕ) (a : NextAnswer) → NextWorked S es t.left t.right level p after a → NextPromise q p after a
      next_worked p after a (inl b) =
          let wrong = next_wrong q p fine (λ h. broken p b.broken h.witness) in
          subst (NextPromise q p after) (sym b.refused) (subst (λ (x : List ℕ). NextPromise q p x (Err NotShortest)) (sym b.untouched) wrong)
      next_worked p after a (inr b) = next_found q p fine b.distances (far_stored (at p 0) b.distances b.measured) (unbroken p b.whole) b.whole.0 after a b.found

      pub first_worked : (start : ℕ) (space after : List ℕ) (a : FirstAnswer) → leb S start ≡ false → FirstWorked S es t.left t.right level start space after a → FirstPromise q start space after a
      first_worked start space after a state w =
          let fine_start : refusal_of (first_causes q start) ≡ 0 = not_15 S es left right (bad_level level || leb S start) zero (or_none _ _ fits state) in
          first_found q start space fine_start w.distances (far_stored start w.distances w.measured) after a w.found
