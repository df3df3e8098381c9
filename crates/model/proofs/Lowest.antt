-- The lowest number that applies to judging: what the tables have, put in its place among the others.
use mathlib.Core.Path.{◌≡◌, sym, ap, ◌∙◌, subst}
use Prim.Native.Nat.{ℕ, ◌%◌, ◌≤◌, ◌<◌}
use mathlib.Core.List.{List, ◌++◌}
use mathlib.Core.Bool.{Bool, true, false, not, ◌||◌}
use mathlib.Core.Logic.{◌⊎◌, ⊎_elim}
use native.Mathlib.Omega.{arith}
use native.Mathlib.Nat.{eq-zero-or-pos}
use lib.ListN.{length}
use lib.Dec.{eqb, ltb}
use borrow.Author.Tests.{ltb-false, eqb-true, eqb-false, not-false}
use Rattle.model.specs.Refusals.{bad_nodes, judge_causes, judge_refusal, label_causes, node_causes, unnamed}
use Rattle.model.specs.Model.{Model, node_count}
use Rattle.values.specs.Limits.{most_atoms, most_node_numbers, most_nodes}
use Rattle.kripke.specs.Refusals.{count_causes, table_refusal, transition_causes}
use Rattle.lists.specs.Causes.{Applies, Cause, Lowest, Rising, refusal_of}
use Rattle.lists.specs.Entries.{All}
use Rattle.kripke.proofs.Refusals.{table_rest}
use Rattle.lists.proofs.Causes.{applies_among, applies_shows, given, passed}
use Rattle.lists.proofs.Search.{any_where}
use Rattle.lists.proofs.Tests.{or_neither}
use Rattle.values.specs.Refusal.{number_of}
use Rattle.values.specs.declared.refusal.Refusal.{Refusal}
use Rattle.values.proofs.Refusing.{passed_early, refused_early}

-- the causes part by part: the count, the labels, the transitions, the nodes
module _ (m : Model) (room : ℕ) where
  after_count : List Cause
  after_count = label_causes m.states m.atoms m.labels m.initial ++ (transition_causes m.states m.transitions ++ node_causes m.states m.atoms m.nodes room)

  pub judge_count : (e : Refusal) → refusal_of (count_causes m.states) ≡ number_of e → judge_refusal m room ≡ number_of e
  unfolding judge_refusal after_count
  judge_count e q = refused_early (count_causes m.states) after_count e q

  counted : refusal_of (count_causes m.states) ≡ 0 → judge_refusal m room ≡ refusal_of after_count
  unfolding judge_refusal after_count
  counted z = passed_early (count_causes m.states) after_count (omega arith) z

  pub judge_labels : (e : Refusal) → refusal_of (count_causes m.states) ≡ 0 → refusal_of (label_causes m.states m.atoms m.labels m.initial) ≡ number_of e → judge_refusal m room ≡ number_of e
  unfolding after_count
  judge_labels e z q = counted z ∙ refused_early (label_causes m.states m.atoms m.labels m.initial) _ e q

  labelled : refusal_of (count_causes m.states) ≡ 0 → refusal_of (label_causes m.states m.atoms m.labels m.initial) ≡ 0 → judge_refusal m room ≡ refusal_of (transition_causes m.states m.transitions ++ node_causes m.states m.atoms m.nodes room)
  unfolding after_count
  labelled z l = counted z ∙ passed_early (label_causes m.states m.atoms m.labels m.initial) _ (omega arith) l

  pub judge_table : (e : Refusal) → refusal_of (count_causes m.states) ≡ 0 → refusal_of (label_causes m.states m.atoms m.labels m.initial) ≡ 0 → table_refusal m.states m.transitions ≡ number_of e → judge_refusal m room ≡ number_of e
  judge_table e z l q = labelled z l ∙ refused_early (transition_causes m.states m.transitions) _ e (sym (table_rest m.states m.transitions z) ∙ q)

  pub judge_nodes : refusal_of (count_causes m.states) ≡ 0 → refusal_of (label_causes m.states m.atoms m.labels m.initial) ≡ 0 → table_refusal m.states m.transitions ≡ 0 → judge_refusal m room ≡ refusal_of (node_causes m.states m.atoms m.nodes room)
  judge_nodes z l t = labelled z l ∙ passed_early (transition_causes m.states m.transitions) _ (omega arith) (sym (table_rest m.states m.transitions z) ∙ t)

-- the causes rise, so that the first that applies is the lowest
pub judge_rises : (m : Model) (room : ℕ) → Rising 0 (judge_causes m room)
judge_rises m room = omega arith

pub judge_lowest : (m : Model) (room : ℕ) → Lowest (Applies (judge_causes m room)) (judge_refusal m room)
unfolding judge_refusal
judge_lowest m room = given 0 (judge_causes m room) (judge_rises m room)

-- a test that 0 passes is passed by what judging answers, if each cause has a number that passes it or doesn't apply
pub judge_among : (P : ℕ → Bool) → P 0 ≡ true → (m : Model) (room : ℕ) → All (λ (c : Cause). (P c.number ≡ true) ⊎ (c.holds ≡ false)) (judge_causes m room) → P (judge_refusal m room) ≡ true
judge_among P z m room h =
    ⊎_elim
    (λ (e : judge_refusal m room ≡ 0). ap P e ∙ z)
    (λ (p : 1 ≤ judge_refusal m room). applies_among P (judge_causes m room) (judge_refusal m room) ((judge_lowest m room).applies (λ e. omega arith)) h)
    (eq-zero-or-pos (judge_refusal m room))

-- where judging answers 22 there is an atom that no node names
pub refused_unnamed : (m : Model) (room : ℕ) → judge_refusal m room ≡ 22 → (a : ℕ) × (a < m.atoms) × (unnamed m.nodes a ≡ true)
refused_unnamed m room e =
    let a : Applies (judge_causes m room) 22 = subst (Applies (judge_causes m room)) e ((judge_lowest m room).applies (λ z. omega arith)) in
    applies_shows (judge_causes m room) 22 a (λ q t. absurd (omega arith), (λ q t. absurd (omega arith), (λ q t. absurd (omega arith), (λ q t. absurd (omega arith), (λ q t. absurd (omega arith), (λ q t. absurd (omega arith), (λ q t. absurd (omega arith), (λ q t. absurd (omega arith), (λ q t. absurd (omega arith), (λ q t. absurd (omega arith), (λ q t. absurd (omega arith), (λ q t. absurd (omega arith), (λ q t. absurd (omega arith), (λ q t. any_where (unnamed m.nodes) m.atoms t, tt))))))))))))))

-- labels that are not refused are of atoms within the limit
pub atoms_few : (S A : ℕ) (labels initial : List ℕ) → refusal_of (label_causes S A labels initial) ≡ 0 → A ≤ most_atoms
atoms_few S A labels initial e = ltb-false most_atoms A (passed 1 (ltb most_atoms A) _ e).0

-- a node list that is not refused has few nodes, three numbers each
pub nodes_size : (ns : List ℕ) → bad_nodes ns ≡ false → (0 < node_count ns) × (node_count ns ≤ most_nodes) × (length ns % 3 ≡ 0)
unfolding bad_nodes
nodes_size ns e =
    let p : (eqb (length ns) 0 ≡ false) × ((ltb most_node_numbers (length ns) || not (eqb (length ns % 3) 0)) ≡ false) = or_neither _ _ e in
    let q : (ltb most_node_numbers (length ns) ≡ false) × (not (eqb (length ns % 3) 0) ≡ false) = or_neither _ _ p.1 in
    let few : length ns ≤ most_node_numbers = ltb-false most_node_numbers (length ns) q.0 in
    let whole : length ns % 3 ≡ 0 = eqb-true (length ns % 3) 0 (not-false _ q.1) in
    let some = eqb-false (length ns) 0 p.0 in
    (omega arith, omega arith, whole)

pub nodes_few : (ns : List ℕ) → bad_nodes ns ≡ false → node_count ns ≤ most_nodes
nodes_few ns e = (nodes_size ns e).1
