-- What `read_transitions` hands back at each of its returns, and what a caller has of it.
use mathlib.Core.Path.{◌≡◌, sym, ap, ap₂, ◌∙◌}
use Prim.Native.Nat.{ℕ, ◌+◌, ◌-◌, ◌≤◌}
use mathlib.Core.List.{List, [], ◌∷◌, ◌++◌}
use mathlib.Core.Bool.{true, false}
use native.Mathlib.Omega.{arith}
use lib.ListN.{replicate, length-replicate}
use lib.Dec.{eqb}
use Rattle.kripke.specs.Answers.{beginnings}
use Rattle.values.specs.Limits.{most_states}
use Rattle.kripke.specs.Refusals.{table_refusal}
use Rattle.kripke.specs.Inside.{early_causes, stuck_cause, Accepted, Ready}
use Rattle.kripke.specs.Transitions.{Ascending, first_out, succs}
use Rattle.lists.specs.Causes.{refusal_of}
use Rattle.lists.specs.Entries.{any_below, at, is_nil}
use Rattle.lists.specs.Rows.{Filled, tab}
use Rattle.kripke.proofs.Begins.{first_less, first_within, stuck_at, succs_ends}
use Rattle.kripke.proofs.Refusals.{accepted, listed, table_parts}
use Rattle.lists.proofs.Causes.{none_refused, refused, skipped}
use Rattle.lists.proofs.Rows.{drop_replicate, filled_at, filled_length}
use Rattle.lists.proofs.Search.{any_same}

module _ (S : ℕ) (es : List ℕ) (fine : refusal_of (early_causes S es) ≡ 0) (begins : List ℕ) (filled : Filled (first_out es) (S + 1) (replicate (most_states + 1) 0) begins) where
  -- the test of the beginnings is the test of the successors
  same_test : any_below (λ (s : ℕ). is_nil (succs es s)) S ≡ any_below (λ (s : ℕ). eqb (at begins s) (at begins (s + 1))) S
  same_test =
      any_same _ _ S
      (λ s h.
      stuck_at es s (listed S es fine).ascending
      ∙ ap₂ eqb (sym (filled_at (first_out es) (S + 1) _ begins filled s (omega arith))) (sym (filled_at (first_out es) (S + 1) _ begins filled (s + 1) (omega arith))))

  last_part : table_refusal S es ≡ refusal_of (stuck_cause S es ∷ [])
  last_part = table_parts S es 0 (sym fine)

  -- refused for a state without a successor
  pub read_stuck : any_below (λ (s : ℕ). eqb (at begins s) (at begins (s + 1))) S ≡ true → table_refusal S es ≡ 9
  read_stuck h = last_part ∙ refused 9 _ [] (same_test ∙ h)

  -- not refused
  pub read_fine : any_below (λ (s : ℕ). eqb (at begins s) (at begins (s + 1))) S ≡ false → (table_refusal S es ≡ 0) × (begins ≡ beginnings S es)
  unfolding beginnings
  read_fine h =
      let rest : most_states + 1 - (S + 1) ≡ most_states - S = omega arith in
      (last_part ∙ skipped 9 _ [] (same_test ∙ h) ∙ none_refused, filled ∙ ap (λ (l : List ℕ). tab (first_out es) (S + 1) ++ l) (drop_replicate (S + 1) (most_states + 1) 0 ∙ ap (λ (k : ℕ). replicate k 0) rest))

-- what a caller has where nothing is refused: a graph, and where each state's transitions begin
pub begun : (S : ℕ) (es begins : List ℕ) → table_refusal S es ≡ 0 → begins ≡ beginnings S es → Ready S es begins
unfolding beginnings
begun S es begins fine e =
    let a : Accepted S es = accepted S es fine in
    let few : S ≤ most_states = a.few in
    let rest : most_states + 1 - (S + 1) ≡ most_states - S = omega arith in
    let filled : Filled (first_out es) (S + 1) (replicate (most_states + 1) 0) begins = e ∙ ap (λ (l : List ℕ). tab (first_out es) (S + 1) ++ l) (sym (drop_replicate (S + 1) (most_states + 1) 0 ∙ ap (λ (k : ℕ). replicate k 0) rest)) in
    let here : (s : ℕ) → s ≤ S → at begins s ≡ first_out es s = λ s h. filled_at (first_out es) (S + 1) (replicate (most_states + 1) 0) begins filled s (omega arith) in
    let asc : Ascending es = a.graph.ascending in
    record {
      accepted = a;
      begun = record {
        room = omega (arith, filled_length (first_out es) (S + 1) (replicate (most_states + 1) 0) begins filled (rw length-replicate (omega arith)), length-replicate {A = ℕ} (most_states + 1) 0);
        rises = λ s h. rw (here s (omega arith), here (s + 1) (omega arith)) (first_less es s asc (a.graph.out s h));
        within = λ s h. rw (here s h) (first_within es s);
        lists = λ s h. rw (here s (omega arith), here (s + 1) (omega arith)) (succs_ends es s asc);
      };
    }
