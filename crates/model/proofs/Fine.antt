-- What a model has that is not refused.
use mathlib.Core.Path.{◌≡◌, sym, ap, ◌∙◌, subst}
use Prim.Native.Nat.{ℕ, ◌*◌, ◌<◌, ◌≤◌}
use mathlib.Core.List.{List, [], ◌∷◌, ◌++◌}
use mathlib.Core.Bool.{Bool, false, not}
use native.Mathlib.Omega.{arith}
use lib.ListN.{length}
use lib.Dec.{eqb, ltb}
use borrow.Author.Tests.{le-ltb, ltb-true, ltb-false, eqb-true, not-false}
use Rattle.model.specs.Model.{Initial, Model, kind_at, left_at, node_count, right_at}
use Rattle.model.specs.Kinds.{bound, kind_of, uses}
use Rattle.model.specs.declared.kinds.Kind.{Kind}
use Rattle.model.specs.Inside.{AtomFits, Fine, NodesFit}
use Rattle.model.specs.Refusals.{bad_initial, bad_nodes, bad_operand, judge_refusal, label_causes, unnamed}
use Rattle.lists.specs.Causes.{cause, refusal_of}
use Rattle.values.specs.Limits.{greatest_kind, most_atoms}
use Rattle.values.specs.Rows.{row_begin, some_above}
use Rattle.values.specs.Values.{top}
use Rattle.kripke.specs.Refusals.{bad_count, bad_list, falls, leaves, table_refusal, transition_causes}
use Rattle.kripke.specs.Transitions.{count, succs}
use Rattle.lists.specs.Entries.{any_below, at, is_nil}
use Rattle.model.proofs.Lowest.{nodes_size}
use Rattle.values.proofs.StoredRows.{none_above}
use Rattle.lists.proofs.Causes.{none_refused, passed, skipped}
use Rattle.lists.proofs.Search.{any_none, any_where}
use Rattle.lists.proofs.Tests.{or_neither}

-- a node whose numbers lie below their bounds names an atom of the model if it names one
atom_fits : (A : ℕ) (ns : List ℕ) (i : ℕ) → bad_operand A ns i ≡ false → AtomFits A (kind_at ns i) (left_at ns i)
atom_fits A ns i e k =
    let below : left_at ns i < bound (uses (kind_of (kind_at ns i))).0 A i = ltb-true _ _ (not-false _ (or_neither _ (not (ltb (right_at ns i) (bound (uses (kind_of (kind_at ns i))).1 A i))) e).0) in
    subst (λ (x : Kind). left_at ns i < bound (uses x).0 A i) k below

pub nodes_fit : (A : ℕ) (ns : List ℕ) → bad_nodes ns ≡ false → any_below (bad_operand A ns) (node_count ns) ≡ false → NodesFit A ns
nodes_fit A ns e q = record { triples = (nodes_size ns e).2; atoms = λ i h. atom_fits A ns i (any_none (bad_operand A ns) (node_count ns) q i h) }

same_length : (S : ℕ) (initial : List ℕ) → bad_initial S initial ≡ false → length initial ≡ S
unfolding bad_initial
same_length S initial e = eqb-true (length initial) S (not-false _ (or_neither (not (eqb (length initial) S)) _ e).0)

some_initial : (S : ℕ) (initial : List ℕ) → bad_initial S initial ≡ false → (s : ℕ) × Initial S initial s
unfolding bad_initial
some_initial S initial e =
    let found = any_where (λ (s : ℕ). eqb (at initial s) 1) (length initial) (not-false _ (or_neither (some_above initial 1) _ (or_neither (not (eqb (length initial) S)) _ e).1).1) in
    (found.0, record { state = omega (arith, found.1, same_length S initial e); entry = eqb-true (at initial found.0) 1 found.2 })

-- what a model has that is not refused
pub judge_fine : (m : Model) (room : ℕ) → judge_refusal m room ≡ 0 → Fine m room
unfolding judge_refusal table_refusal
judge_fine m room e =
    let S : ℕ = m.states in
    let A : ℕ = m.atoms in
    let labels : List ℕ = m.labels in
    let initial : List ℕ = m.initial in
    let es : List ℕ = m.transitions in
    let ns : List ℕ = m.nodes in
    let p1 = passed 0 (bad_count S) _ e in
    let p2 = passed 1 (ltb most_atoms A) _ p1.1 in
    let p3 = passed 2 (not (eqb (length labels) (S * A))) _ p2.1 in
    let p4 = passed 3 (some_above labels top) _ p3.1 in
    let p5 = passed 4 (bad_initial S initial) _ p4.1 in
    let p6 = passed 5 (bad_list es) _ p5.1 in
    let p7 = passed 6 (any_below (leaves S es) (count es)) _ p6.1 in
    let p8 = passed 7 (any_below (falls es) (count es)) _ p7.1 in
    let p9 = passed 8 (any_below (λ (s : ℕ). is_nil (succs es s)) S) _ p8.1 in
    let p10 = passed 9 (bad_nodes ns) _ p9.1 in
    let p11 = passed 10 (any_below (λ (i : ℕ). ltb greatest_kind (kind_at ns i)) (node_count ns)) _ p10.1 in
    let p12 = passed 11 (any_below (bad_operand A ns) (node_count ns)) _ p11.1 in
    let p13 = passed 12 (ltb room (row_begin S (node_count ns))) _ p12.1 in
    let p14 = passed 21 (any_below (unnamed ns) A) _ p13.1 in
    let size = nodes_size ns p10.0 in
    record {
      table = skipped 1 _ _ p1.0 ∙ skipped 6 _ _ p6.0 ∙ skipped 7 _ _ p7.0 ∙ skipped 8 _ _ p8.0 ∙ skipped 9 _ _ p9.0 ∙ none_refused;
      labelled = eqb-true (length labels) (S * A) (not-false _ p3.0);
      small = none_above labels top p4.0;
      initials = same_length S initial p5.0;
      starts = some_initial S initial p5.0;
      some = size.0;
      few = size.1;
      nodes = nodes_fit A ns p10.0 p12.0;
      operands = any_none (bad_operand A ns) (node_count ns) p12.0;
      space = ltb-false room (row_begin S (node_count ns)) p13.0;
      named = any_none (unnamed ns) A p14.0;
    }

-- the room comes into the refusals by the test 13 alone, so that a space with room for the rows refuses nothing that another one takes
by_room : Model → Bool → ℕ
by_room m short =
    refusal_of
    (cause 1 (bad_count m.states)
    ∷ label_causes m.states m.atoms m.labels m.initial
    ++ (transition_causes m.states m.transitions
    ++ (cause 10 (bad_nodes m.nodes)
    ∷ cause 11 (any_below (λ (i : ℕ). ltb greatest_kind (kind_at m.nodes i)) (node_count m.nodes))
    ∷ cause 12 (any_below (bad_operand m.atoms m.nodes) (node_count m.nodes))
    ∷ cause 13 short
    ∷ cause 22 (any_below (unnamed m.nodes) m.atoms)
    ∷ [])))

pub more_room : (m : Model) (room room' : ℕ) → row_begin m.states (node_count m.nodes) ≤ room → row_begin m.states (node_count m.nodes) ≤ room' → judge_refusal m room ≡ judge_refusal m room'
unfolding judge_refusal by_room
more_room m room room' h h' = ap (by_room m) (le-ltb room (row_begin m.states (node_count m.nodes)) h ∙ sym (le-ltb room' (row_begin m.states (node_count m.nodes)) h'))
