-- The check by `paths`: with the row "not right" on both sides it passes at level 2 exactly the lists along which the right value is 0.
use mathlib.Core.Path.{◌≡◌, refl, sym, ap, ◌∙◌, subst}
use Prim.Native.Nat.{ℕ, ◌-◌, ◌≤◌, ◌<◌}
use mathlib.Core.List.{List, [], ◌∷◌}
use mathlib.Core.Bool.{Bool, true, false, cond, not, true≢false}
use native.Mathlib.Omega.{arith}
use lib.ListN.{length, take, drop}
use lib.Seq.{take_at}
use lib.Dec.{leb}
use borrow.Author.Tests.{le-leb}
use Rattle.lists.specs.Causes.{refusal_of}
use Rattle.lists.specs.Entries.{All, at}
use Rattle.lists.specs.Rows.{fill}
use Rattle.lists.proofs.Entries.{all_at}
use Rattle.lists.proofs.Late.{none_applies}
use Rattle.lists.proofs.Tests.{and_both}
use Rattle.values.specs.Limits.{most_states}
use Rattle.values.specs.Rows.{bad_row, row_size, value_at}
use Rattle.values.proofs.StoredRows.{row_size_within, row_values_small}
use Rattle.kripke.specs.Answers.{OppositeStored, opposite_row}
use Rattle.kripke.specs.Refusals.{question_causes, table_refusal}
use Rattle.kripke.proofs.Opposites.{opposite_at, opposite_size, opposite_valid}
use Rattle.kripke.proofs.Reading.{not_15, question_fine}
use Rattle.std.specs.Prelude.{Ok, Err}
use Rattle.values.specs.Refusal.{number_of}
use Rattle.values.specs.declared.refusal.Refusal.{Refusal}
use Rattle.paths.specs.Answers.{CheckPromise}
use Rattle.paths.specs.Questions.{From, Reaches, asked}
use Rattle.paths.specs.Refusals.{bad_level, causes}
use Rattle.paths.proofs.Answering.{causes_rise}
use Rattle.pictures.specs.declared.Ending.{Ending}
use Rattle.pictures.specs.Inside.{Passing, Readable, Tells}
use Rattle.pictures.specs.Pictures.{Along, Drawn, EndsBy, LeadsBack, last}

-- a test that tells
pub tells_yes : {P : Type 0} → P → Tells P true
tells_yes p = record { holds = λ e. p; fails = λ e. absurd (true≢false e) }

pub tells_no : {P : Type 0} → (P → ⊥) → Tells P false
tells_no n = record { holds = λ e. absurd (true≢false (sym e)); fails = λ e. n }

pub tells_map : {P Q : Type 0} {b : Bool} → (P → Q) → (Q → P) → Tells P b → Tells Q b
tells_map f g t = record { holds = λ e. f (t.holds e); fails = λ e q. t.fails e (g q) }

-- `passes`: what the check answered
module _ (S : ℕ) (es row path : List ℕ) where
  pub pass_yes : CheckPromise (asked S es row row 2) path (Ok true) → Tells (Passing S es row path) true
  pass_yes c = tells_yes c.says

  pub pass_no : CheckPromise (asked S es row row 2) path (Ok false) → Tells (Passing S es row path) false
  pass_no c = tells_no c.says

  pub pass_refused : (n : Refusal) → Readable S es row → CheckPromise (asked S es row row 2) path (Err n) → ⊥
  unfolding bad_level
  pass_refused n r c =
      let none : refusal_of (question_causes S es row row) ≡ 0 = question_fine S es row row r.table r.valid r.valid in
      none_applies (causes (asked S es row row 2)) (causes_rise (asked S es row row 2)) (not_15 S es row row (bad_level 2) none refl) (number_of n) (c.number.applies (λ e. omega (arith, c.says)))

  pub passes_told : (b : Bool) → CheckPromise (asked S es row row 2) path (Ok b) → Tells (Passing S es row path) b
  passes_told true c = pass_yes c
  passes_told false c = pass_no c

-- what a list that passes has: an entry, and at each a state where the row is true
module _ (S : ℕ) (es row : List ℕ) where
  abbrev True : ℕ → Type 0
  True = Reaches S 2 (value_at row)

  from_all : (s : ℕ) (p : List ℕ) → From es True True s p → All True (s ∷ p)
  from_all s [] f = (f, tt)
  from_all s (t ∷ p) f = (f.0, from_all t p f.2)

  pub passing_some : (path : List ℕ) → Passing S es row path → 0 < length path
  passing_some [] w = absurd w
  passing_some (s ∷ p) w = omega arith

  pub passing_at : (path : List ℕ) → Passing S es row path → (i : ℕ) → i < length path → True (at path i)
  passing_at [] w i h = absurd w
  passing_at (s ∷ p) w i h = all_at True (s ∷ p) (from_all s p w) i h

  pub passing_last : (path : List ℕ) → Passing S es row path → last path < S
  passing_last path w = (passing_at path w (length path - 1) (omega (arith, passing_some path w))).0

  -- `leads_back`: the last state and the one at the place, as a list of two
  pub pair_leads : (path : List ℕ) (k : ℕ) (b : Bool) → Passing S es row path → k < length path → Tells (Passing S es row (last path ∷ at path k ∷ [])) b → Tells (LeadsBack es path k) b
  pair_leads path k b w h = tells_map (λ p. (h, p.1)) (λ q. (passing_at path w (length path - 1) (omega (arith, passing_some path w)), q.1, passing_at path w k h))

-- `drawn`: the row "not right"
module _ (S : ℕ) (right : List ℕ) where
  abbrev row : List ℕ
  row = opposite_row S right

  module _ (fine : bad_row S right ≡ false) where
    true_zero : (s : ℕ) → Reaches S 2 (value_at row) s → value_at right s ≡ 0
    true_zero s r = omega (arith, r.1, opposite_at S right s r.0, row_values_small S right fine s)

    zero_true : (s : ℕ) → s < S → value_at right s ≡ 0 → Reaches S 2 (value_at row) s
    zero_true s h z = (h, omega (arith, opposite_at S right s h))

    module _ (es : List ℕ) where
      from_along : (s : ℕ) (p : List ℕ) → From es (Reaches S 2 (value_at row)) (Reaches S 2 (value_at row)) s p → Along S es (value_at right) (s ∷ p)
      from_along s [] f = record { some = tt; states = (f.0, tt); joined = tt; right_false = (true_zero s f, tt) }
      from_along s (t ∷ p) f =
          let later = from_along t p f.2 in
          record { some = tt; states = (f.0.0, later.states); joined = (f.1, later.joined); right_false = (true_zero s f.0, later.right_false) }

      along_from : (s : ℕ) (p : List ℕ) → Along S es (value_at right) (s ∷ p) → From es (Reaches S 2 (value_at row)) (Reaches S 2 (value_at row)) s p
      along_from s [] a = zero_true s a.states.0 a.right_false.0
      along_from s (t ∷ p) a = (zero_true s a.states.0 a.right_false.0, a.joined.0, along_from t p (record { some = tt; states = a.states.1; joined = a.joined.1; right_false = a.right_false.1 }))

      passing_along : (path : List ℕ) → Passing S es row path → Along S es (value_at right) path
      passing_along [] w = absurd w
      passing_along (s ∷ p) w = from_along s p w

      along_passing : (path : List ℕ) → Along S es (value_at right) path → Passing S es row path
      along_passing [] a = a.some
      along_passing (s ∷ p) a = along_from s p a

      pub drawn_told : (left : ℕ → ℕ) (path : List ℕ) (e : Ending) (b : Bool) → Tells (Passing S es row path × EndsBy es left path e) b → Tells (Drawn S es left (value_at right) path e) b
      drawn_told left path e b = tells_map (λ p. record { along = passing_along path p.0; ends = p.1 }) (λ d. (along_passing path d.along, d.ends))

    -- the row that `opposite_row` put at the front of a space
    module _ (before space : List ℕ) (b : Bool) (few : S ≤ most_states) (room : S ≤ length before) (o : OppositeStored S right before space b) where
      size : row_size S ≤ length before
      size = omega (arith, row_size_within S)

      stored : b ≡ true
      stored = o.is ∙ and_both (leb S most_states) _ (le-leb S most_states few) (and_both (not (bad_row S right)) _ (ap not fine) (le-leb (row_size S) (length before) size))

      pub opposite_front : (n : ℕ) → n ≡ row_size S → take n space ≡ row
      opposite_front n e = ap (take n) (o.space ∙ ap (λ (x : Bool). cond x (fill row before) before) stored) ∙ take_at row (drop (length row) before) n (opposite_size S right ∙ sym e)

      pub opposite_readable : (es : List ℕ) → table_refusal S es ≡ 0 → (n : ℕ) → n ≡ row_size S → Readable S es (take n space)
      opposite_readable es z n e = record { table = z; valid = subst (λ (r : List ℕ). bad_row S r ≡ false) (sym (opposite_front n e)) (opposite_valid S right) }
