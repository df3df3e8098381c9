-- The refusals of the tables: the number is the lowest that applies, and what tables have that are not refused.
use mathlib.Core.Path.{◌≡◌, refl, sym, ap, ◌∙◌, subst}
use Prim.Native.Nat.{ℕ, suc, ◌-◌, ◌%◌, ◌≤◌, ◌<◌}
use mathlib.Core.List.{List, [], ◌∷◌, ◌++◌}
use mathlib.Core.Bool.{true, false, cond, not, ◌&&◌, ◌||◌}
use mathlib.Core.Logic.{◌⊎◌, inl, inr}
use native.Mathlib.Omega.{arith}
use native.Mathlib.Nat.{eq-zero-or-pos}
use lib.ListN.{length}
use lib.Dec.{eqb, ltb}
use borrow.Author.Tests.{lt-ltb, ne_eqb, ltb-false, leb-false, eqb-false, not-false}
use Rattle.values.specs.Limits.{most_states, most_transition_numbers, most_transitions}
use Rattle.kripke.specs.Inside.{Accepted, early_causes, list_causes, scan_causes, stuck_cause}
use Rattle.kripke.specs.Refusals.{bad_count, bad_list, count_causes, falls, leaves, table_causes, table_refusal, transition_causes}
use Rattle.kripke.specs.Transitions.{Ascending, comes_before, count, succs}
use Rattle.lists.specs.Causes.{Rising, refusal_of}
use Rattle.lists.specs.Entries.{All, any_below, is_nil}
use Rattle.values.specs.Refusal.{number_of}
use Rattle.values.specs.declared.refusal.Refusal.{Refusal}
use Rattle.values.proofs.Refusing.{passed_early, refused_early}
use Rattle.kripke.proofs.Begins.{from_tail, to_tail}
use Rattle.lists.proofs.Causes.{passed, refusal_append}
use Rattle.lists.proofs.Entries.{some_of}
use Rattle.lists.proofs.Search.{any_none}
use Rattle.lists.proofs.Tests.{and_holds, or_neither}

count_range : (S : ℕ) → bad_count S ≡ false → (0 < S) × (S ≤ most_states)
unfolding bad_count
count_range S e = let p : (eqb S 0 ≡ false) × (ltb most_states S ≡ false) = or_neither _ _ e in (omega (arith, eqb-false S 0 p.0), ltb-false most_states S p.1)

list_size : (es : List ℕ) → bad_list es ≡ false → (length es ≤ most_transition_numbers) × (length es % 2 ≡ 0)
unfolding bad_list
list_size es e =
    let q : (eqb (length es) 0 ≡ false) × ((ltb most_transition_numbers (length es) || eqb (length es % 2) 1) ≡ false) = or_neither _ _ e in
    let p : (ltb most_transition_numbers (length es) ≡ false) × (eqb (length es % 2) 1 ≡ false) = or_neither _ _ q.1 in
    (ltb-false most_transition_numbers (length es) p.0, omega (arith, eqb-false (length es % 2) 1 p.1))

-- the numbers of the table rise, so that the first that applies is the lowest
pub table_rises : (S : ℕ) (es : List ℕ) → Rising 0 (table_causes S es)
table_rises S es = omega arith

-- every end is a state, told pair by pair
ends_of : (S : ℕ) (es : List ℕ) → length es % 2 ≡ 0 → ((k : ℕ) → k < count es → leaves S es k ≡ false) → All (λ (t : ℕ). t < S) es
ends_of S [] even h = tt
ends_of S (f ∷ []) even h = absurd (omega arith)
ends_of S (f ∷ t ∷ es) even h =
    let p = or_neither _ _ (h 0 (omega arith)) in
    (leb-false S f p.0, (leb-false S t p.1, ends_of S es (omega arith) (λ k l. rw (from_tail f t es k, to_tail f t es k) at (h (suc k) (omega arith)))))

-- what the transitions have once 1, 6, 7 and 8 do not apply
pub record Listed (S : ℕ) (es : List ℕ) : Type 0 where
  pub some : 0 < S
  pub few : S ≤ most_states
  pub short : count es ≤ most_transitions
  pub ends : All (λ (t : ℕ). t < S) es
  pub ascending : Ascending es

pub listed : (S : ℕ) (es : List ℕ) → refusal_of (early_causes S es) ≡ 0 → Listed S es
listed S es e =
    let p1 = passed 0 (bad_count S) _ e in
    let p6 = passed 5 (bad_list es) _ p1.1 in
    let p7 = passed 6 (any_below (leaves S es) (count es)) _ p6.1 in
    let p8 = passed 7 (any_below (falls es) (count es)) _ p7.1 in
    let range = count_range S p1.0 in
    let size = list_size es p6.0 in
    record {
      some = range.0;
      few = range.1;
      short = omega (arith, size.0);
      ends = ends_of S es size.1 (any_none (leaves S es) (count es) p7.0);
      ascending = λ k h. rises k (any_none (falls es) (count es) p8.0 (suc k) h);
    }
  where
    rises : (k : ℕ) → falls es (suc k) ≡ false → comes_before es k (suc k) ≡ true
    rises k f =
        let before : suc k - 1 ≡ k = omega arith in
        not-false _ (sym (and_holds _ _ (lt-ltb 0 (suc k) (omega arith))) ∙ subst (λ (j : ℕ). (ltb 0 (suc k) && not (comes_before es j (suc k))) ≡ false) before f)

-- the table in its two parts: what is told from the lists, and a state without a successor
pub table_parts : (S : ℕ) (es : List ℕ) (n : ℕ) → n ≡ refusal_of (early_causes S es) → table_refusal S es ≡ cond (eqb n 0) (refusal_of (stuck_cause S es ∷ [])) n
unfolding table_refusal
table_parts S es n e = refusal_append 0 (early_causes S es) (stuck_cause S es ∷ []) (omega arith) ∙ ap (λ (m : ℕ). cond (eqb m 0) (refusal_of (stuck_cause S es ∷ [])) m) (sym e)

pub accepted : (S : ℕ) (es : List ℕ) → table_refusal S es ≡ 0 → Accepted S es
accepted S es e = go (refusal_of (early_causes S es)) refl (eq-zero-or-pos (refusal_of (early_causes S es)))
  where
    go : (n : ℕ) → n ≡ refusal_of (early_causes S es) → (n ≡ 0) ⊎ (0 < n) → Accepted S es
    go n q (inl z) =
        let l = listed S es (sym q ∙ z) in
        let stuck = (passed 8 (any_below (λ (s : ℕ). is_nil (succs es s)) S) [] (sym (table_parts S es n q ∙ rw z) ∙ e)).0 in
        record { some = l.some; few = l.few; short = l.short; graph = record { ends = l.ends; ascending = l.ascending; out = λ s h. some_of (succs es s) (any_none (λ (s : ℕ). is_nil (succs es s)) S stuck s h) } }
    go n q (inr p) =
        let given : table_refusal S es ≡ n = table_parts S es n q ∙ rw (ne_eqb n 0 (λ z. omega arith)) in
        absurd (omega arith)

-- refused from the lists alone
pub table_early : (S : ℕ) (es : List ℕ) (e : Refusal) → refusal_of (early_causes S es) ≡ number_of e → table_refusal S es ≡ number_of e
unfolding table_refusal
table_early S es e q = refused_early (early_causes S es) (stuck_cause S es ∷ []) e q

pub early_count : (S : ℕ) (es : List ℕ) (e : Refusal) → refusal_of (count_causes S) ≡ number_of e → refusal_of (early_causes S es) ≡ number_of e
early_count S es e q = refused_early (count_causes S) (list_causes es ++ scan_causes S es) e q

early_after_count : (S : ℕ) (es : List ℕ) → refusal_of (count_causes S) ≡ 0 → refusal_of (early_causes S es) ≡ refusal_of (list_causes es ++ scan_causes S es)
early_after_count S es z = passed_early (count_causes S) (list_causes es ++ scan_causes S es) (omega arith) z

pub early_list : (S : ℕ) (es : List ℕ) (e : Refusal) → refusal_of (count_causes S) ≡ 0 → refusal_of (list_causes es) ≡ number_of e → refusal_of (early_causes S es) ≡ number_of e
early_list S es e z q = early_after_count S es z ∙ refused_early (list_causes es) (scan_causes S es) e q

pub early_each : (S : ℕ) (es : List ℕ) → refusal_of (count_causes S) ≡ 0 → refusal_of (list_causes es) ≡ 0 → refusal_of (early_causes S es) ≡ refusal_of (scan_causes S es)
early_each S es z y = early_after_count S es z ∙ passed_early (list_causes es) (scan_causes S es) (omega arith) y

-- the count that is not refused
pub count_few : (S : ℕ) → refusal_of (count_causes S) ≡ 0 → S ≤ most_states
count_few S z = (count_range S (passed 0 (bad_count S) [] z).0).1

-- where the count is refused the tables are, and where it is not the transitions decide
pub table_rest : (S : ℕ) (es : List ℕ) → refusal_of (count_causes S) ≡ 0 → table_refusal S es ≡ refusal_of (transition_causes S es)
unfolding table_refusal
table_rest S es z = passed_early (count_causes S) (transition_causes S es) (omega arith) z
