-- The rows are the meaning, and one relational argument for each of range, settling and no-unknown.
use mathlib.Core.Path.{◌≡◌, refl, sym, ap, ◌∙◌, subst, subst₂}
use Prim.Native.Nat.{ℕ, zero, suc, ◌≤◌, ◌<◌}
use mathlib.Core.List.{List, []}
use mathlib.Core.Logic.{◌⊎◌, inl, inr, ⊎_elim}
use native.Mathlib.Omega.{arith}
use lib.ListN.{length, get_or, get_or-eq_default}
use Rattle.lists.specs.Entries.{at}
use Rattle.values.specs.Answers.{verdict}
use Rattle.values.specs.Rows.{held, row_in, row_values, value_at}
use Rattle.values.specs.Values.{top}
use Rattle.model.specs.Labels.{Settled, label_count, with_labels}
use Rattle.model.specs.Model.{Model, left_at, node_count}
use Rattle.ctl.specs.Rows.{model_verdict, rows_of, verdict_at}
use Rattle.promises.specs.Verdicts.{AcceptedFits, BeyondStays, CompletionKeeps, CompletionsThere, InRange, MeaningInRange, MeaningKnown, NextReaches, NoUnknown, RowsAreTheMeaning, Settling, SettlingAccepted, SettlingKeeps, SmallestInitial, Stays, There, last_of, written}
use Rattle.ctl.proofs.Held.{held_beyond, next_held}
use Rattle.ctl.proofs.OverInitial.{initial_some, smallest_bounds, smallest_picked}
use Rattle.ctl.proofs.Related.{rows_related, small, verdict_related}
use Rattle.ctl.proofs.Unknowns.{Known, UnknownOrSame, known_kleene, settling_kleene}
use Rattle.kripke.proofs.Nexts.{next_reaches_lem}
use Rattle.kripke.proofs.Successors.{edge_state}
use Rattle.lists.proofs.Numbers.{lt_or_le}
use Rattle.lists.proofs.Rows.{tab_at}
use Rattle.model.proofs.Fine.{judge_fine}
use Rattle.model.proofs.Labels.{completion_settles, completions_there_lem, labels_all, labels_there, settled_refusal}
use Rattle.promises.proofs.Accepted.{accepted_verdict, answered, graph_there, number_none, rows_stand, written_value}

pub meaning_in_range : MeaningInRange
unfolding rows_of verdict_at
meaning_in_range m l =
    let labels = labels_all (λ (v : ℕ). v ≤ top) m l (omega arith) l.small in
    ((rows_related (λ (a b : ℕ). a ≤ top) small m m.labels labels m.nodes).here, verdict_related (λ (a b : ℕ). a ≤ top) small m m.labels labels)

pub in_range : InRange
in_range m before after v p =
    let r = meaning_in_range m (labels_there m (length before) (number_none m before after v p)) in
    (omega (arith, answered m before after v p, r.1), λ k s t. omega (arith, written_value m before after v p k s t, r.0 k s))

pub rows_are_the_meaning : RowsAreTheMeaning
rows_are_the_meaning m before after v p = (answered m before after v p, written_value m before after v p)

pub smallest_initial : SmallestInitial
unfolding model_verdict verdict_at
smallest_initial m before after v p =
    let S : ℕ = m.states in
    let last : ℕ = last_of m in
    let row : List ℕ = get_or (rows_of m) last [] in
    let fine = judge_fine m (length before) (number_none m before after v p) in
    let least = smallest_picked m.initial row S (initial_some m.initial S fine.starts.0 fine.starts.1) in
    let stands : (s : ℕ) → s < S → written m after last s ≡ at row s = λ s h. written_value m before after v p last s (record { node = omega (arith, fine.some); state = h }) in (
      (least.0, least.1, stands least.0 least.1.state ∙ least.2 ∙ sym (answered m before after v p)),
      λ s h. omega (arith, answered m before after v p, stands s h.state, smallest_bounds m.initial row S s h),
    )

pub beyond_stays : BeyondStays
beyond_stays m before after v p = held_beyond m before (number_none m before after v p) after (rows_stand m before after v p)

pub accepted_fits : AcceptedFits
accepted_fits m before after v p = (labels_there m (length before) (number_none m before after v p), graph_there m before after v p)

-- what a row in the space has at a state is what is written there
row_written : (m : Model) (after : List ℕ) (k s : ℕ) → s < m.states → at (row_values m.states (row_in m.states after k)) s ≡ written m after k s
unfolding row_values held
row_written m after k s h = tab_at (value_at (row_in m.states after k)) m.states s h

pub next_reaches : NextReaches
next_reaches m before after v p k s level t four =
    let S : ℕ = m.states in
    let es : List ℕ = m.transitions in
    let G = graph_there m before after v p in
    let u = next_held m before (number_none m before after v p) after (rows_stand m before after v p) k s t.node t.state four in
    let reaches = next_reaches_lem S es G (row_values S (row_in S after (left_at m.nodes k))) level s t.state in (
      λ l. let w = reaches.0 (omega (arith, u.1)) in (w.0, w.1, omega (arith, w.2, row_written m after (left_at m.nodes k) w.0 (edge_state S es G s w.0 w.1))),
      λ w. omega (arith, u.1, reaches.1 (w.0, w.1, omega (arith, w.2, row_written m after (left_at m.nodes k) w.0 (edge_state S es G s w.0 w.1)))),
    )

-- labels of which some are settled, at every place
settled_labels : (m m' : Model) → Settled m m' → (i : ℕ) → UnknownOrSame (at m.labels i) (at m'.labels i)
settled_labels m m' d i =
    ⊎_elim
    (λ (l : i < label_count m). record { low = d.first.small i l; low' = d.second.small i (subst (λ (n : ℕ). i < n) same_count l); same = d.settles i l })
    (λ (l : label_count m ≤ i). subst₂ UnknownOrSame (sym (get_or-eq_default m.labels 0 {n = i} (omega (arith, d.first.size)))) (sym (get_or-eq_default m'.labels 0 {n = i} (omega (arith, d.second.size, same_count)))) (record { low = omega arith; low' = omega arith; same = inr refl }))
    (lt_or_le i (label_count m))
  where
    same_count : label_count m ≡ label_count m'
    same_count = ap label_count (sym d.kept)

other_labels : (m : Model) (labels' : List ℕ) → ((i : ℕ) → UnknownOrSame (at m.labels i) (at labels' i)) → ((k s : ℕ) → Stays (verdict_at m k s) (verdict_at (with_labels m labels') k s)) × Stays (model_verdict m) (model_verdict (with_labels m labels'))
unfolding rows_of verdict_at
other_labels m labels' h = (λ k s. ((rows_related UnknownOrSame settling_kleene m labels' h m.nodes).here k s).same, (verdict_related UnknownOrSame settling_kleene m labels' h).same)

pub settling : Settling
settling m m' d = subst (λ (x : Model). ((k s : ℕ) → Stays (verdict_at m k s) (verdict_at x k s)) × Stays (model_verdict m) (model_verdict x)) (sym d.kept) (other_labels m m'.labels (settled_labels m m' d))

pub settling_keeps : SettlingKeeps
settling_keeps m m' d before after before' after' v v' p p' =
    let s = settling m m' d in
    (λ k st t. subst₂ Stays (sym (written_value m before after v p k st t)) (sym (written_value m' before' after' v' p' k st (moved t))) (s.0 k st), subst₂ Stays (sym (answered m before after v p)) (sym (answered m' before' after' v' p')) s.1)
  where
    moved : {k st : ℕ} → There m k st → There m' k st
    moved {k} {st} t = record { node = subst (λ (x : Model). k < node_count x.nodes) (sym d.kept) t.node; state = subst (λ (x : Model). st < x.states) (sym d.kept) t.state }

pub settling_accepted : SettlingAccepted
settling_accepted m before after v p m' d after' r q = (verdict (model_verdict m'), accepted_verdict m' before after' r q (settled_refusal m m' (length before) d ∙ number_none m before after v p))

pub completion_keeps : CompletionKeeps
completion_keeps m m' c before after before' after' v v' p p' =
    let d = settling_keeps m m' (completion_settles m m' c) before after before' after' v v' p p' in
    (λ k s t h. ⊎_elim (λ e. absurd (h e)) (λ e. sym e) (d.0 k s t), λ h. ⊎_elim (λ e. absurd (h e)) (λ e. sym e) d.1)

pub completions_there : CompletionsThere
completions_there = (λ m before after v p chosen. completions_there_lem m (labels_there m (length before) (number_none m before after v p)) chosen, completion_settles)

-- without unknown labels no value of the meaning is unknown
no_one : (v : ℕ) → v ≤ top → (v ≡ 1 → ⊥) → (v ≡ 0) ⊎ (v ≡ 2)
no_one zero h n = inl refl
no_one (suc zero) h n = absurd (n refl)
no_one (suc (suc zero)) h n = inr refl
no_one (suc (suc (suc v))) h n = absurd (omega arith)

not_both : (v : ℕ) → (v ≡ 0) ⊎ (v ≡ 2) → v ≡ 1 → ⊥
not_both v (inl z) e = omega arith
not_both v (inr z) e = omega arith

pub meaning_known : MeaningKnown
unfolding rows_of verdict_at
meaning_known m l h =
    let labels = labels_all (λ (v : ℕ). (v ≡ 0) ⊎ (v ≡ 2)) m l (inl refl) (λ i k. no_one (at m.labels i) (l.small i k) (h i k)) in
    (λ k s e. not_both _ ((rows_related Known known_kleene m m.labels labels m.nodes).here k s) e, λ e. not_both _ (verdict_related Known known_kleene m m.labels labels) e)

pub no_unknown : NoUnknown
no_unknown m before after v p h =
    let known = meaning_known m (labels_there m (length before) (number_none m before after v p)) h in
    (λ k s t e. known.0 k s (sym (written_value m before after v p k s t) ∙ e), λ e. known.1 (sym (answered m before after v p) ∙ e))
