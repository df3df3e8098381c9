-- Each number that is listed for reading is given, for some text and with some tables.
use Prim.Native.Nat.{ℕ, suc}
use mathlib.Core.Path.{◌≡◌, refl, ◌∙◌}
use mathlib.Core.List.{List, [], ◌∷◌, ◌++◌}
use native.Mathlib.Omega.{arith}
use Rattle.lists.specs.Entries.{All}
use Rattle.values.specs.Limits.{most_atoms, most_text}
use Rattle.values.specs.Signs.{letters, numeral, numbers_print}
use Rattle.form.specs.Readers.{exactly, place_of, may_grow, number_from, number, symbol, symbols, numbers, within, count_line, row_line, numbers_line, lines}
use Rattle.form.specs.Form.{key_states, key_atoms, key_init, key_label, key_edges, key_edge, key_nodes, bits, listed, model_text}
use Rattle.form.specs.Print.{count_print, row_print, line_print}
use Rattle.text.specs.Answers.{tables, too_short, text_outcome, refusals, Occurs}
use Rattle.text.specs.Answers.Outcome.{refusal}
use Rattle.text.proofs.Whole.{zeros, zeros_length, largest, largest_long, outcome_here, outcome_short, outcome_long}

-- texts that break off at a count: the states, the atoms, the edges, the nodes
abbrev bad_states : List ℕ
bad_states = count_print key_states 0

abbrev bad_atoms : List ℕ
bad_atoms = count_print key_states 1 ++ count_print key_atoms (suc most_atoms)

abbrev labelled : List ℕ
labelled = count_print key_states 1 ++ (count_print key_atoms 0 ++ (row_print key_init bits (1 ∷ []) ++ row_print key_label letters []))

abbrev bad_edges : List ℕ
bad_edges = labelled ++ count_print key_edges 0

abbrev bad_nodes : List ℕ
bad_nodes = labelled ++ (count_print key_edges 1 ++ (line_print key_edge (0 ∷ 0 ∷ []) ++ count_print key_nodes 0))

comes_to : (text_outcome bad_states ≡ refusal 1) × (text_outcome bad_atoms ≡ refusal 2) × (text_outcome bad_edges ≡ refusal 6) × (text_outcome bad_nodes ≡ refusal 10) × (text_outcome [] ≡ refusal 19)
unfolding text_outcome model_text listed count_line row_line numbers_line lines within exactly number number_from may_grow symbols symbol numbers place_of numeral numbers_print
comes_to = (refl, refl, refl, refl, refl)

-- into tables that are long enough
into : (n : ℕ) (text : List ℕ) → text_outcome text ≡ refusal n → Occurs n
into n text e = record { text = text; lent = largest; comes = outcome_here largest text largest_long ∙ e }

too_long : Occurs 18
too_long = record { text = zeros (suc most_text); lent = largest; comes = outcome_long largest (zeros (suc most_text)) largest_long (omega (arith, zeros_length (suc most_text))) }

-- and into none
none_lent : Occurs 24
unfolding too_short
none_lent = record { text = []; lent = tables [] [] [] []; comes = outcome_short (tables [] [] [] []) [] refl }

pub each_number_occurs : All Occurs refusals
each_number_occurs =
    let c = comes_to in
    (into 1 bad_states c.0, (into 2 bad_atoms c.1, (into 6 bad_edges c.2, (into 10 bad_nodes c.3, (too_long, (into 19 [] c.4, (none_lent, tt)))))))
