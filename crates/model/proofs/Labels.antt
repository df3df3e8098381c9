-- Labels of a model that is not refused, the completions that it has, and that settling labels refuses nothing.
use mathlib.Core.Path.{◌≡◌, refl, sym, ap, ap₂, ◌∙◌, subst}
use Prim.Native.Nat.{ℕ, zero, suc, ◌<◌, ◌≤◌}
use mathlib.Core.List.{[], ◌∷◌, ◌++◌}
use mathlib.Core.Bool.{Bool, true, false, cond, not}
use mathlib.Core.Logic.{◌⊎◌, inl, inr, ⊎_elim}
use native.Mathlib.Omega.{arith}
use lib.ListN.{length, get_or-eq_default}
use lib.Dec.{eqb, ltb}
use borrow.Author.Tests.{eq-eqb, ne_eqb}
use Rattle.lists.specs.Causes.{cause, refusal_of}
use Rattle.lists.specs.Entries.{at}
use Rattle.values.specs.Limits.{most_atoms}
use Rattle.values.specs.Rows.{some_above}
use Rattle.values.specs.Values.{top}
use Rattle.kripke.specs.Refusals.{bad_count, transition_causes}
use Rattle.model.specs.Labels.{Completion, Labels, Settled, completed, filled_in, label_count}
use Rattle.model.specs.Model.{Model}
use Rattle.model.specs.Refusals.{bad_initial, judge_refusal, node_causes}
use Rattle.lists.proofs.Numbers.{lt_or_le}
use Rattle.lists.proofs.Rows.{length_tab, tab_at}
use Rattle.model.proofs.Fine.{judge_fine}
use Rattle.values.proofs.StoredRows.{above_none}

-- a model that is not refused has labels as they should be
pub labels_there : (m : Model) (room : ℕ) → judge_refusal m room ≡ 0 → Labels m
labels_there m room z = let f = judge_fine m room z in record { size = f.labelled; small = λ i h. f.small i }

-- past the list's end labels are 0
pub labels_all : (P : ℕ → Type 0) (m : Model) → Labels m → P 0 → ((i : ℕ) → i < label_count m → P (at m.labels i)) → (i : ℕ) → P (at m.labels i)
labels_all P m l z h i =
    ⊎_elim (λ (k : i < label_count m). h i k) (λ (k : label_count m ≤ i). subst P (sym (get_or-eq_default m.labels 0 {n = i} (omega (arith, l.size)))) z) (lt_or_le i (label_count m))

-- every choice of yes or no for the unknown labels is a completion
pub completions_there_lem : (m : Model) → Labels m → (chosen : ℕ → Bool) → Completion m (completed m chosen)
unfolding filled_in
completions_there_lem m l chosen =
    record {
      first = l;
      kept = refl;
      size = length_tab (filled_in m chosen) (label_count m);
      unknown = λ i h e. subst (λ (x : ℕ). (x ≡ 0) ⊎ (x ≡ 2)) (sym (tab_at (filled_in m chosen) (label_count m) i h ∙ ap (λ (b : Bool). cond b (cond (chosen i) 2 0) (at m.labels i)) (eq-eqb (at m.labels i) 1 e))) (one_of (chosen i));
      other = λ i h n. tab_at (filled_in m chosen) (label_count m) i h ∙ ap (λ (b : Bool). cond b (cond (chosen i) 2 0) (at m.labels i)) (ne_eqb (at m.labels i) 1 n);
    }
  where
    one_of : (b : Bool) → (◌≡◌ {A = ℕ} (cond b 2 0) 0) ⊎ (◌≡◌ {A = ℕ} (cond b 2 0) 2)
    one_of true = inr refl
    one_of false = inl refl

-- a completion settles
pub completion_settles : (m m' : Model) → Completion m m' → Settled m m'
completion_settles m m' c =
    record {
      first = c.first;
      second = record { size = c.size ∙ same_count; small = λ i l. go i (subst (λ (n : ℕ). i < n) (sym same_count) l) (one_or_not (at m.labels i)) };
      kept = c.kept;
      settles = λ i l. ⊎_elim inl (λ (n : at m.labels i ≡ 1 → ⊥). inr (sym (c.other i l n))) (one_or_not (at m.labels i));
    }
  where
    one_or_not : (v : ℕ) → (v ≡ 1) ⊎ (v ≡ 1 → ⊥)
    one_or_not zero = inr (λ e. omega arith)
    one_or_not (suc zero) = inl refl
    one_or_not (suc (suc v)) = inr (λ e. omega arith)

    same_count : label_count m ≡ label_count m'
    same_count = ap label_count (sym c.kept)

    go : (i : ℕ) → i < label_count m → (at m.labels i ≡ 1) ⊎ (at m.labels i ≡ 1 → ⊥) → at m'.labels i ≤ top
    go i l (inl e) = ⊎_elim (λ (z : at m'.labels i ≡ 0). omega arith) (λ (z : at m'.labels i ≡ 2). omega arith) (c.unknown i l e)
    go i l (inr n) = omega (arith, c.other i l n, c.first.small i l)

-- labels come into the refusals by the tests 3 and 4 alone
by_labels : Model → ℕ → Bool → Bool → ℕ
by_labels m room size above =
    refusal_of (cause 1 (bad_count m.states) ∷ (cause 2 (ltb most_atoms m.atoms) ∷ cause 3 size ∷ cause 4 above ∷ cause 5 (bad_initial m.states m.initial) ∷ []) ++ (transition_causes m.states m.transitions ++ node_causes m.states m.atoms m.nodes room))

-- labels as they should be pass both
pub fine_tests : (m : Model) → Labels m → (not (eqb (length m.labels) (label_count m)) ≡ false) × (some_above m.labels top ≡ false)
fine_tests m l = (ap not (eq-eqb _ _ l.size), above_none m.labels top (labels_all (λ (v : ℕ). v ≤ top) m l (omega arith) l.small))

-- so a settled model is refused where the first one is
pub settled_refusal : (m m' : Model) (room : ℕ) → Settled m m' → judge_refusal m' room ≡ judge_refusal m room
unfolding judge_refusal by_labels
settled_refusal m m' room s =
    let a = fine_tests m s.first in
    let b = fine_tests m' s.second in
    ap (λ (x : Model). judge_refusal x room) s.kept
    ∙ ap₂ (by_labels m room) (subst (λ (n : ℕ). not (eqb (length m'.labels) n) ≡ false) (ap label_count s.kept) b.0) b.1
    ∙ sym (ap₂ (by_labels m room) a.0 a.1)
