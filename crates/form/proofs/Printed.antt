-- The form reads the print of every printable model as that model, and whatever it reads is the print of what was read.
use Prim.Native.Nat.{ℕ, ◌*◌, ◌/◌, ◌<◌}
use mathlib.Core.Path.{◌≡◌, refl, ap, sym, ◌∙◌, subst}
use mathlib.Core.List.{List, [], ◌∷◌, ◌++◌, append-nil}
use native.Mathlib.Omega.{arith}
use native.Mathlib.Nat.{mul_comm, div-eq_of_eq-mul_right}
use lib.ListN.{length}
use Rattle.values.specs.Values.{top}
use Rattle.values.specs.Limits.{most_states, most_atoms, most_transitions, most_nodes}
use Rattle.values.specs.Signs.{letters}
use Rattle.kripke.specs.Transitions.{count}
use Rattle.model.specs.Model.{Model, node_count}
use Rattle.form.specs.Readers.{place_of, count_line, row_line, numbers_line, lines, end}
use Rattle.form.specs.Readers.Reading.{found}
use Rattle.form.specs.Form.{listed, model_text, key_states, key_atoms, key_init, key_label, key_edges, key_edge, key_nodes, key_node, bits}
use Rattle.form.specs.Print.{count_print, row_print, line_print, lines_print, listed_print, print, Count, Values, PrintableList, Printable}
use Rattle.form.proofs.Readings.{found_same, refused_found, through}
use Rattle.form.proofs.Decimal.{Apart}
use Rattle.form.proofs.Inverse.{Reads, then, past, next, said, count_inverse}
use Rattle.form.proofs.InverseLines.{row_inverse, line_inverse, lines_inverse}

bits_apart : Apart bits
unfolding place_of
bits_apart = (refl, (refl, tt))

letters_apart : Apart letters
unfolding place_of
letters_apart = (refl, (refl, (refl, tt)))

-- each part of the form
states_inverse : Reads (count_line key_states 1 most_states 1) (count_print key_states) (Count 1 most_states)
states_inverse = count_inverse key_states 1 most_states 1

atoms_inverse : Reads (count_line key_atoms 0 most_atoms 2) (count_print key_atoms) (Count 0 most_atoms)
atoms_inverse = count_inverse key_atoms 0 most_atoms 2

initial_inverse : (S : ℕ) → Reads (row_line key_init bits S) (row_print key_init bits) (Values S 1)
initial_inverse S = row_inverse bits 1 bits_apart refl key_init S

labels_inverse : (S A : ℕ) → Reads (lines (row_line key_label letters A) S) (lines_print (row_print key_label letters) A S) (Values (S * A) top)
labels_inverse S A =
    rw (mul_comm S A) (lines_inverse (row_line key_label letters A) (row_print key_label letters) A top (row_inverse letters top letters_apart refl key_label A) S)

listed_inverse : (many one : List ℕ) (w most refusal : ℕ) → 0 < w
    → Reads (listed many one w most refusal) (λ xs. listed_print many one w (length xs / w) xs) (λ xs. PrintableList w most (length xs / w) xs)
unfolding listed
listed_inverse many one w most refusal some =
    said _ _ _ _ _
    (next (count_line many 1 most refusal) (count_print many) (Count 1 most) (lines (numbers_line one w)) (lines_print (line_print one) w) (λ n. Values (w * n) 65535) (λ xs. length xs / w)
    (count_inverse many 1 most refusal) (lines_inverse (numbers_line one w) (line_print one) w 65535 (line_inverse one w)) (λ n xs g. div-eq_of_eq-mul_right some g.size))
    (λ xs g. record { count = g.0; numbers = g.1 })
    (λ xs g. (g.count, g.numbers))
    (λ xs. refl)

transitions_inverse : Reads (listed key_edges key_edge 2 most_transitions 6) (λ es. listed_print key_edges key_edge 2 (count es) es) (λ es. PrintableList 2 most_transitions (count es) es)
transitions_inverse = listed_inverse key_edges key_edge 2 most_transitions 6 (omega arith)

nodes_inverse : Reads (listed key_nodes key_node 3 most_nodes 10) (λ ns. listed_print key_nodes key_node 3 (node_count ns) ns) (λ ns. PrintableList 3 most_nodes (node_count ns) ns)
nodes_inverse = listed_inverse key_nodes key_node 3 most_nodes 10 (omega arith)

end_back : (s rest : List ℕ) (u : Unit {0}) → end s ≡ found u rest → (s ≡ []) × (rest ≡ [])
unfolding end
end_back [] rest u e = (refl, sym (found_same e).1)
end_back (c ∷ s) rest u e = absurd (refused_found e)

-- the whole text
pub model_reads : (m : Model) → Printable m → model_text (print m) ≡ found m []
unfolding model_text print end
model_reads m g =
    let N = listed_print key_nodes key_node 3 (node_count m.nodes) m.nodes in
    let last : N ≡ N ++ [] = sym (append-nil N) in
    rw last
    (then states_inverse _ m.states _ g.states ∙ then atoms_inverse _ m.atoms _ g.atoms ∙ then (initial_inverse m.states) _ m.initial _ g.initial
    ∙ then (labels_inverse m.states m.atoms) _ m.labels _ g.labels ∙ then transitions_inverse _ m.transitions _ g.transitions
    ∙ then nodes_inverse _ m.nodes [] g.nodes)

pub model_back : (s : List ℕ) (m : Model) (rest : List ℕ) → model_text s ≡ found m rest → (s ≡ print m) × Printable m
unfolding model_text print
model_back s m rest e =
    let S = past states_inverse _ s m rest e in
    let A = past atoms_inverse _ S.left m rest S.next in
    let I = past (initial_inverse S.value) _ A.left m rest A.next in
    let L = past (labels_inverse S.value A.value) _ I.left m rest I.next in
    let T = past transitions_inverse _ L.left m rest L.next in
    let N = past nodes_inverse _ T.left m rest T.next in
    let d = through (end N.left) _ m rest N.next in
    let last : T.left ≡ listed_print key_nodes key_node 3 (node_count N.value) N.value = N.text ∙ rw (end_back N.left d.left d.value d.first).0 (append-nil _) in
    subst (λ (u : Model). (s ≡ print u) × Printable u) (found_same d.then).0 (
      rw (← last, ← T.text, ← L.text, ← I.text, ← A.text, ← S.text),
      record { states = S.good; atoms = A.good; initial = I.good; labels = L.good; transitions = T.good; nodes = N.good },
    )

-- the form reads a text exactly if it is the print of a printable model
pub well_formed : (text : List ℕ) (m : Model) → model_text text ≡ found m [] → (text ≡ print m) × Printable m
well_formed text m e = model_back text m [] e

pub formed_well : (text : List ℕ) (m : Model) → text ≡ print m → Printable m → model_text text ≡ found m []
formed_well text m e g = ap model_text e ∙ model_reads m g
