-- Every print fits into a text: no line is longer than its longest, and the longest of all of them together are within the limit.
use Prim.Native.Nat.{ℕ, zero, suc, ◌+◌, ◌*◌, ◌≤◌}
use mathlib.Core.List.{List, [], ◌∷◌, ◌++◌}
use native.Mathlib.Omega.{arith}
use native.Mathlib.Nat.{mul-le-mul_right}
use lib.ListN.{length, take, drop, length-append, length-map, length-take}
use Rattle.lists.specs.Entries.{at}
use Rattle.values.specs.Limits.{most_states, most_atoms, most_transitions, most_nodes, most_text}
use Rattle.values.specs.Signs.{decimal, letters, numbers_print, stop_before}
use Rattle.values.proofs.Decimals.{decimal_short}
use Rattle.kripke.specs.Transitions.{count}
use Rattle.model.specs.Model.{Model, node_count}
use Rattle.form.specs.Form.{key_states, key_atoms, key_init, key_label, key_edges, key_edge, key_nodes, key_node, bits}
use Rattle.form.specs.Print.{count_print, row_print, line_print, lines_print, listed_print, print, Printable}
use Rattle.form.specs.Longest.{longest_number, longest_count, longest_row, longest_line, longest_list, longest_print}

both_short : (xs ys : List ℕ) (a b : ℕ) → length xs ≤ a → length ys ≤ b → length (xs ++ ys) ≤ a + b
both_short xs ys a b h k = omega (arith, length-append xs ys)

count_short : (k : List ℕ) (n : ℕ) → length (count_print k n) ≤ longest_count k
count_short k n = simp length-append (omega (arith, decimal_short n))

row_short : (k signs vs : List ℕ) (n : ℕ) → length vs ≤ n → length (row_print k signs vs) ≤ longest_row k n
row_short k signs vs n h = simp length-append (omega (arith, length-map vs (at signs)))

numbers_short : (ns : List ℕ) → length (numbers_print ns) ≤ length ns * longest_number
unfolding numbers_print
numbers_short [] = omega arith
numbers_short (n ∷ ns) = omega (arith, length-append (decimal n) (stop_before (length ns) ∷ numbers_print ns), decimal_short n, numbers_short ns)

line_short : (k ns : List ℕ) (w : ℕ) → length ns ≤ w → length (line_print k ns) ≤ longest_line k w
line_short k ns w h = omega (arith, length-append k (numbers_print ns), numbers_short ns)

lines_short : (line : List ℕ → List ℕ) (w b : ℕ) → ((vs : List ℕ) → length vs ≤ w → length (line vs) ≤ b) → (n : ℕ) (vs : List ℕ) → length (lines_print line w n vs) ≤ n * b
unfolding lines_print
lines_short line w b h zero vs = omega arith
lines_short line w b h (suc n) vs =
    omega (arith, length-append (line (take w vs)) (lines_print line w n (drop w vs)), h (take w vs) (omega (arith, length-take w vs)), lines_short line w b h n (drop w vs))

list_short : (many one : List ℕ) (w most n : ℕ) (xs : List ℕ) → n ≤ most → length (listed_print many one w n xs) ≤ longest_list many one w most
list_short many one w most n xs h =
    omega (
      arith,
      length-append (count_print many n) (lines_print (line_print one) w n xs),
      count_short many n,
      lines_short (line_print one) w (longest_line one w) (λ ns l. line_short one ns w l) n xs,
      mul-le-mul_right (longest_line one w) h,
    )

print_short : (m : Model) → Printable m → length (print m) ≤ longest_print
unfolding print
print_short m g =
    let labels = lines_short (row_print key_label letters) m.atoms (longest_row key_label most_atoms) (λ vs l. row_short key_label letters vs most_atoms (omega (arith, l, g.atoms.most))) m.states m.labels in
    both_short (count_print key_states m.states) _ (longest_count key_states) _ (count_short key_states m.states)
    (both_short (count_print key_atoms m.atoms) _ (longest_count key_atoms) _ (count_short key_atoms m.atoms)
    (both_short (row_print key_init bits m.initial) _ (longest_row key_init most_states) _ (row_short key_init bits m.initial most_states (omega (arith, g.initial.size, g.states.most)))
    (both_short (lines_print (row_print key_label letters) m.atoms m.states m.labels) _ (most_states * longest_row key_label most_atoms) _
    (omega (arith, labels, mul-le-mul_right (longest_row key_label most_atoms) g.states.most))
    (both_short (listed_print key_edges key_edge 2 (count m.transitions) m.transitions) _ (longest_list key_edges key_edge 2 most_transitions) _
    (list_short key_edges key_edge 2 most_transitions (count m.transitions) m.transitions g.transitions.count.most)
    (list_short key_nodes key_node 3 most_nodes (node_count m.nodes) m.nodes g.nodes.count.most)))))

-- and that is within the limit
pub longest_print_lem : (m : Model) → Printable m → length (print m) ≤ most_text
longest_print_lem m g = omega (arith, print_short m g)
