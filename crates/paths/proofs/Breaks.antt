-- Entries at fault: the test at one entry, and that a list is a witness exactly if no entry is at fault.
use mathlib.Core.Path.{◌≡◌, refl, sym, ap, ◌∙◌, subst}
use Prim.Native.Nat.{ℕ, zero, suc, ◌+◌, ◌-◌, ◌≤◌, ◌<◌}
use mathlib.Core.List.{List}
use mathlib.Core.Bool.{Bool, true, false, cond, not}
use mathlib.Core.Logic.{⊎_elim}
use native.Mathlib.Omega.{arith}
use lib.ListN.{length, drop}
use lib.Dec.{leb, ltb}
use borrow.Author.Tests.{le-leb, lt-leb, leb-false, lt-ltb, le-ltb, ltb-false, not-false}
use Rattle.lists.specs.Entries.{at, any_below}
use Rattle.lists.proofs.Numbers.{lt_or_le}
use Rattle.lists.proofs.Search.{any_none}
use Rattle.lists.proofs.Tests.{and_fails, and_holds, or_fails, or_left, or_neither}
use Rattle.kripke.specs.Transitions.{Edge, succs}
use Rattle.paths.specs.Questions.{From, Reaches}
use Rattle.paths.specs.Inside.{Faultless, at_fault, has, unjoined}
use Rattle.paths.proofs.Places.{from_back, from_last, from_place, from_step, last_from}
use Rattle.paths.proofs.Scans.{has_edge, no_edge}

-- the entry before
pub unjoined_first : (es p : List ℕ) (i : ℕ) → i ≡ 0 → unjoined es p i ≡ false
unfolding unjoined
unjoined_first es p i e = and_fails _ _ (le-ltb 0 i (omega arith))

pub unjoined_later : (es p : List ℕ) (i : ℕ) (b : Bool) → 0 < i → b ≡ has (at p i) (succs es (at p (i - 1))) → unjoined es p i ≡ not b
unfolding unjoined
unjoined_later es p i b h e = and_holds _ _ (lt-ltb 0 i h) ∙ ap not (sym e)

module _ (S : ℕ) (es : List ℕ) (L R : ℕ → ℕ) (level : ℕ) (p : List ℕ) where
  -- one entry: each way out of the test
  module _ (i : ℕ) where
    pub fault_state : S ≤ at p i → at_fault S es L R level p i ≡ true
    unfolding at_fault
    fault_state h = or_left _ _ (le-leb S (at p i) h)

    pub fault_unjoined : at p i < S → unjoined es p i ≡ true → at_fault S es L R level p i ≡ true
    unfolding at_fault
    fault_unjoined h u = or_fails _ _ (lt-leb S (at p i) h) ∙ or_left _ _ u

    fault_value : at p i < S → unjoined es p i ≡ false → at_fault S es L R level p i ≡ ltb (cond (ltb (i + 1) (length p)) (L (at p i)) (R (at p i))) level
    unfolding at_fault
    fault_value h u = or_fails _ _ (lt-leb S (at p i) h) ∙ or_fails _ _ u

    pub fault_left : at p i < S → unjoined es p i ≡ false → i + 1 < length p → at_fault S es L R level p i ≡ ltb (L (at p i)) level
    fault_left h u l = fault_value h u ∙ ap (λ (b : Bool). ltb (cond b (L (at p i)) (R (at p i))) level) (lt-ltb (i + 1) (length p) l)

    pub fault_right : at p i < S → unjoined es p i ≡ false → length p ≤ i + 1 → at_fault S es L R level p i ≡ ltb (R (at p i)) level
    fault_right h u l = fault_value h u ∙ ap (λ (b : Bool). ltb (cond b (L (at p i)) (R (at p i))) level) (le-ltb (i + 1) (length p) l)

    -- an entry that is not at fault
    fine_entry : at_fault S es L R level p i ≡ false → (at p i < S) × (unjoined es p i ≡ false)
    unfolding at_fault
    fine_entry e =
        let a = or_neither (leb S (at p i)) _ e in
        let b = or_neither (unjoined es p i) _ a.1 in
        (leb-false S (at p i) a.0, b.0)

    pub fine_state : at_fault S es L R level p i ≡ false → at p i < S
    fine_state e = (fine_entry e).0

    fine_left : at_fault S es L R level p i ≡ false → i + 1 < length p → Reaches S level L (at p i)
    fine_left e l = let f = fine_entry e in (f.0, ltb-false _ _ (sym (fault_left f.0 f.1 l) ∙ e))

    fine_right : at_fault S es L R level p i ≡ false → length p ≤ i + 1 → Reaches S level R (at p i)
    fine_right e l = let f = fine_entry e in (f.0, ltb-false _ _ (sym (fault_right f.0 f.1 l) ∙ e))

  fine_edge : (i : ℕ) → at_fault S es L R level p (i + 1) ≡ false → Edge es (at p i) (at p (i + 1))
  fine_edge i e =
      let before : i + 1 - 1 ≡ i = omega arith in
      let test : has (at p (i + 1)) (succs es (at p (i + 1 - 1))) ≡ true = not-false _ (sym (unjoined_later es p (i + 1) _ (omega arith) refl) ∙ (fine_entry (i + 1) e).1) in
      has_edge es (at p i) (at p (i + 1)) (subst (λ (j : ℕ). has (at p (i + 1)) (succs es (at p j)) ≡ true) before test)

  -- with no entry at fault the list is a witness
  pub faultless : 0 < length p → any_below (at_fault S es L R level p) (length p) ≡ false → From es (Reaches S level L) (Reaches S level R) (at p 0) (drop 1 p)
  faultless h none = go (length p - 1) 0 (omega arith)
    where
      fine : (i : ℕ) → i < length p → at_fault S es L R level p i ≡ false
      fine i l = any_none (at_fault S es L R level p) (length p) none i l

      go : (m i : ℕ) → i + m + 1 ≡ length p → From es (Reaches S level L) (Reaches S level R) (at p i) (drop (i + 1) p)
      go zero i e = last_from es (Reaches S level L) (Reaches S level R) p i (omega arith) (fine_right i (fine i (omega arith)) (omega arith))
      go (suc m) i e = from_back es (Reaches S level L) (Reaches S level R) p i (omega arith) (fine_left i (fine i (omega arith)) (omega arith)) (fine_edge i (fine (i + 1) (omega arith))) (go m (i + 1) (omega arith))

  -- a witness has no entry at fault
  pub no_fault : From es (Reaches S level L) (Reaches S level R) (at p 0) (drop 1 p) → (i : ℕ) → i < length p → at_fault S es L R level p i ≡ false
  no_fault f i h = ⊎_elim (λ (l : i + 1 < length p). inner l) (λ (l : length p ≤ i + 1). last l) (lt_or_le (i + 1) (length p))
    where
      here : From es (Reaches S level L) (Reaches S level R) (at p i) (drop (i + 1) p)
      here = from_place es (Reaches S level L) (Reaches S level R) p i h f

      linked : (j : ℕ) → j ≡ i → unjoined es p i ≡ false
      linked zero e = unjoined_first es p i (sym e)
      linked (suc j) e =
          let before : i - 1 ≡ j = omega arith in
          let next : j + 1 ≡ i = omega arith in
          let edge : Edge es (at p j) (at p (j + 1)) = (from_step es (Reaches S level L) (Reaches S level R) p j (omega arith) (from_place es (Reaches S level L) (Reaches S level R) p j (omega arith) f)).1 in
          let test : has (at p i) (succs es (at p (i - 1))) ≡ true = rw (before, ← next) (told (has (at p (j + 1)) (succs es (at p j))) refl edge) in
          unjoined_later es p i true (omega arith) (sym test)
        where
          told : (b : Bool) → has (at p (j + 1)) (succs es (at p j)) ≡ b → Edge es (at p j) (at p (j + 1)) → b ≡ true
          told true q edge = refl
          told false q edge = absurd (no_edge es (at p j) (at p (j + 1)) q edge)

      inner : i + 1 < length p → at_fault S es L R level p i ≡ false
      inner l = let s = from_step es (Reaches S level L) (Reaches S level R) p i l here in fault_left i s.0.0 (linked i refl) l ∙ le-ltb (L (at p i)) level s.0.1

      last : length p ≤ i + 1 → at_fault S es L R level p i ≡ false
      last l = let s = from_last es (Reaches S level L) (Reaches S level R) p i l here in fault_right i s.0 (linked i refl) l ∙ le-ltb (R (at p i)) level s.1

-- a list with no entry at fault begins with a state
pub first_state : (S : ℕ) (es : List ℕ) (L R : ℕ → ℕ) (level : ℕ) (p : List ℕ) → Faultless S es L R level p true → at p 0 < S
first_state S es L R level p f = fine_state S es L R level p 0 (any_none (at_fault S es L R level p) (length p) f.1 0 f.0)
