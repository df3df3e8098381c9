-- The public calls: what was read of the tables and what was found on the values give the promises on the stored rows.
use mathlib.Core.Path.{◌≡◌, refl, sym, ◌∙◌, subst}
use Prim.Native.Nat.{ℕ, ◌≤◌, ◌<◌}
use mathlib.Core.List.{List, [], ◌∷◌}
use mathlib.Core.Bool.{Bool, true, false, true≢false}
use mathlib.Core.Logic.{inl, inr, ⊎_elim}
use native.Mathlib.Omega.{arith}
use lib.ListN.{length}
use lib.Dec.{leb}
use borrow.Author.Tests.{le-leb, lt-leb}
use Rattle.lists.specs.Causes.{Applies, Lowest, Rising, refusal_of}
use Rattle.lists.specs.Entries.{Some, at}
use Rattle.lists.proofs.Causes.{given}
use Rattle.lists.proofs.Late.{lowest_early, lowest_late, lowest_none}
use Rattle.lists.proofs.Entries.{all_weaken}
use Rattle.values.specs.Inside.{RowTaken}
use Rattle.values.specs.Rows.{row_values, value_at}
use Rattle.values.proofs.StoredRows.{values_at}
use Rattle.kripke.specs.Transitions.{Graph}
use Rattle.kripke.specs.Walks.{Begins}
use Rattle.kripke.specs.declared.tables.Tables.{Tables}
use Rattle.kripke.specs.Inside.{Taken}
use Rattle.kripke.proofs.Reading.{before_15, given_15, not_15, question_rises, table_fine, tables_taken}
use Rattle.std.specs.Prelude.{None, Ok, Err, IsErrAnd}
use Rattle.std.specs.Prelude.{Some as There}
use Rattle.kripke.specs.Refusals.{question_causes}
use Rattle.kripke.specs.Answers.{TablesHold}
use Rattle.values.proofs.Refusing.{is_refused, number_some}
use Rattle.paths.specs.Answers.{CheckAnswer}
use Rattle.values.specs.Refusal.{number_of}
use Rattle.values.specs.declared.refusal.Refusal.{Refusal}
use Rattle.pictures.specs.declared.Ending.{Ending}
use Rattle.values.specs.declared.refusal.Refusal.TheVariants.{LevelOrStart, PathSpace}
use Rattle.pictures.specs.Pictures.{Drawn, IsFalse, Picture, Question, asked}
use Rattle.pictures.specs.Refusals.{TooSmall, causes, start_causes}
use Rattle.pictures.specs.Answers.{CheckPromise, PictureAnswer, PicturePromise}
use Rattle.pictures.specs.Inside.{AllMarked, Drawing, Marked, Readable, Tells, Walked, mark}
use Rattle.pictures.proofs.Closing.{goes_false}
use Rattle.pictures.proofs.Exists.{drawn_same, false_same}
use Rattle.pictures.proofs.Checks.{tells_map}

pub start_causes_rise : (q : Question) (start : ℕ) → Rising 0 (start_causes q start)
start_causes_rise q start = omega arith

-- refused by the causes
pub picture_refused : (q : Question) (start : ℕ) (space : List ℕ) (e : Refusal) → refusal_of (start_causes q start) ≡ number_of e → PicturePromise q start space space (Err e)
picture_refused q start space e is =
    record {
      number = lowest_early (start_causes q start) (start_causes_rise q start) (λ (k : ℕ). (k ≡ 16) × TooSmall q start (length space)) 15 (number_of e) (omega arith) (λ k l. omega (arith, l.0)) (sym is) (number_some e);
      says = record { numbered = number_some e; untouched = refl };
    }

begins_some : (s : ℕ) (p : List ℕ) → Begins s p → Some p
begins_some s [] b = absurd b
begins_some s (x ∷ p) b = tt

module _ (S : ℕ) (es left right : List ℕ) where
  abbrev q : Question
  q = asked S es left right

  number : Lowest (Applies (causes q)) (refusal_of (question_causes S es left right))
  number = given 0 (causes q) (question_rises S es left right)

  -- refused by the tables
  module _ (e : Refusal) (is : refusal_of (question_causes S es left right) ≡ number_of e) where
    pub picture_tables : (start : ℕ) (space : List ℕ) (r : PictureAnswer) → IsErrAnd r (λ y. y ≡ e) → PicturePromise q start space space r
    picture_tables start space r h = subst (PicturePromise q start space space) (sym (is_refused r e h)) (picture_refused q start space e (before_15 S es left right (leb S start) e is))

    pub check_tables : (path : List ℕ) (d : Ending) (r : CheckAnswer) → IsErrAnd r (λ y. y ≡ e) → CheckPromise q path d r
    check_tables path d r h = subst (CheckPromise q path d) (sym (is_refused r e h)) (record { number = subst (Lowest (Applies (causes q))) is number; says = number_some e })

  module _ (t : Tables) (zero : refusal_of (question_causes S es left right) ≡ 0) (holds : TablesHold S es left right t) where
    taken : Taken S es left right t
    taken = tables_taken zero holds

    G : Graph S es
    G = taken.ready.accepted.graph

    pub readable : Readable S es right
    readable = record { table = table_fine S es left right zero; valid = taken.right_row.fine }

    -- the check: the left values that were read say what the stored row says
    told : (path : List ℕ) (e : Ending) (b : Bool) → Tells (Drawn S es (at t.left) (value_at right) path e) b → Tells (Picture q path e) b
    told path e b = tells_map (drawn_same S es _ _ _ _ taken.left_row.here (λ s h. refl) path e) (drawn_same S es _ _ _ _ (λ s h. sym (taken.left_row.here s h)) (λ s h. refl) path e)

    pub check_told : (path : List ℕ) (e : Ending) (b : Bool) → Tells (Drawn S es (at t.left) (value_at right) path e) b → CheckPromise q path e (Ok b)
    check_told path e true d = record { number = subst (Lowest (Applies (causes q))) zero number; says = (told path e true d).holds refl }
    check_told path e false d = record { number = subst (Lowest (Applies (causes q))) zero number; says = (told path e false d).fails refl }

    module _ (start : ℕ) (space : List ℕ) where
      pub picture_start : S ≤ start → PicturePromise q start space space (Err LevelOrStart)
      picture_start h = picture_refused q start space LevelOrStart (given_15 S es left right (leb S start) zero (le-leb S start h))

      abbrev Late : ℕ → Type 0
      Late k = (k ≡ 16) × TooSmall q start (length space)

      module _ (h : start < S) (marks : List Bool) (m : AllMarked S es t.left t.right marks) where
        fine : refusal_of (start_causes q start) ≡ 0
        fine = not_15 S es left right (leb S start) zero (lt-leb S start h)

        -- no mark: the verdict is not false
        picture_none : mark marks start ≡ false → PicturePromise q start space space (Ok None)
        picture_none z =
            let here : (stored values : List ℕ) → RowTaken S stored values → (s : ℕ) → s < S → at (row_values S stored) s ≡ at values s = λ stored values k s l. values_at S stored s l ∙ sym (k.here s l) in
            let not : IsFalse q start → ⊥ = λ f. true≢false (sym (m.holds.all start h (false_same S es G (row_values S left) (row_values S right) t.left t.right (here left t.left taken.left_row) (here right t.right taken.right_row) start h f)) ∙ z) in
            record {
              number = lowest_none (start_causes q start) (start_causes_rise q start) Late fine (λ k l. not l.1.is_false);
              says = record { not-false = not; untouched = refl };
            }

        -- a mark: it is false
        module _ (marked : mark marks start ≡ true) where
          is_false : IsFalse q start
          is_false =
              goes_false S es G (row_values S left) (row_values S right) (Marked S marks) (λ s k. k.0)
              (λ s k. values_at S right s k.0 ∙ sym (taken.right_row.here s k.0) ∙ m.holds.low s k)
              (λ s k. ⊎_elim (λ z. inl (values_at S left s k.0 ∙ sym (taken.left_row.here s k.0) ∙ z)) inr (m.goes s k)) start (h, marked)

          picture_small : length space < S → PicturePromise q start space space (Err PathSpace)
          picture_small l =
              record {
                number = lowest_late (start_causes q start) (start_causes_rise q start) Late 16 fine (omega arith) (refl, record { is_false = is_false; fewer = l }) (λ k p. omega (arith, p.0));
                says = record { numbered = omega arith; untouched = refl };
              }

          picture_walked : S ≤ length space → (after : List ℕ) (n : ℕ) (e : Ending) → Walked S es t.left marks start space after n e → PicturePromise q start space after (Ok (There (n, e)))
          picture_walked room after n e w =
              let d : Drawn S es (at t.left) (at t.right) w.path e = record {
                along = record {
                  some = begins_some start w.path w.begins;
                  states = all_weaken (Marked S marks) (λ (s : ℕ). s < S) (λ s k. k.0) w.path w.marked;
                  joined = w.joined;
                  right_false = all_weaken (Marked S marks) (λ (s : ℕ). at t.right s ≡ 0) (λ s k. m.holds.low s k) w.path w.marked;
                };
                ends = w.ends;
              } in
              record {
                number = lowest_none (start_causes q start) (start_causes_rise q start) Late fine (λ k l. omega (arith, l.1.fewer));
                says = record {
                  is_false = is_false;
                  path = w.path;
                  begins = w.begins;
                  drawn = drawn_same S es _ _ _ _ taken.left_row.here taken.right_row.here w.path e d;
                  size = w.size;
                  few = w.few;
                  fits = omega (arith, w.few);
                  space = w.space;
                };
              }

      pub picture_drawn : start < S → (after : List ℕ) (a : PictureAnswer) → Drawing S es t.left t.right start space after a → PicturePromise q start space after a
      picture_drawn h after (Ok (There (n, e))) d = picture_walked h d.marks d.marked d.says.0 d.says.1 after n e d.says.2
      picture_drawn h after (Ok None) d = subst (λ (x : List ℕ). PicturePromise q start space x (Ok None)) (sym d.says.1) (picture_none h d.marks d.marked d.says.0)
      picture_drawn h after (Err e) d = subst (λ (k : Refusal). PicturePromise q start space after (Err k)) (sym d.says.0) (subst (λ (x : List ℕ). PicturePromise q start space x (Err PathSpace)) (sym d.says.3) (picture_small h d.marks d.marked d.says.1 d.says.2))
