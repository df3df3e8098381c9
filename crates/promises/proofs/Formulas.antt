-- Judging a formula's node list gives the formula's meaning: each theorem from the one law on the rows of its parts.
use mathlib.Core.Path.{◌≡◌, refl, sym, ap, ◌∙◌}
use Prim.Native.Nat.{ℕ, ◌+◌, ◌*◌, ◌-◌, ◌≤◌, ◌<◌}
use mathlib.Core.List.{List, [], ◌++◌, append_assoc, append-nil}
use native.Mathlib.Omega.{arith}
use lib.ListN.{length, get_or, take, drop, length-append, take-append-drop}
use Rattle.lists.specs.Entries.{at}
use Rattle.model.specs.Model.{Model, node_count}
use Rattle.ctl.specs.Rows.{model_verdict, over_initial, rows_from, rows_of, verdict_at}
use Rattle.formula.specs.Tree.{Formula, size}
use Rattle.formula.specs.Nodes.{nodes_from, nodes_of, root_from}
use Rattle.formula.specs.Meaning.{value, value_row}
use Rattle.promises.specs.Formulas.{JudgedFormula, JudgedPart, MeaningOfFormula, PartMeaning, PartsMeaning, part_rows}
use Rattle.ctl.proofs.NodeLists.{first_size, first_rows, rows_append, rows_count, rows_kept}
use Rattle.lists.proofs.Rows.{tab_at}
use Rattle.promises.proofs.Accepted.{answered, written_value}
use Rattle.formula.proofs.Sizes.{nodes_length, size_some}
use Rattle.promises.proofs.Parts.{part_rows_lem, parts_count, root_row}

pub parts_meaning : PartsMeaning
unfolding rows_of rows_from
parts_meaning m f e = ap (rows_from m []) (e ∙ sym (append-nil (nodes_of f))) ∙ part_rows_lem m f [] 0 refl []

pub part_meaning : PartMeaning
unfolding rows_of
part_meaning m k first f p =
    let ns : List ℕ = m.nodes in
    let rest : List ℕ = drop (3 * (k + 1)) ns in
    let rows : List (List ℕ) = first_rows m ns first in
    let within : first ≤ node_count ns = omega (arith, p.there, p.whole) in
    let count : length rows ≡ first = rows_count m ns first within in
    let root : root_from first f ≡ k = omega (arith, p.whole) in
    let split : ns ≡ take (3 * first) ns ++ (nodes_from first f ++ rest) = sym (take-append-drop (3 * (k + 1)) ns) ∙ ap (λ (x : List ℕ). x ++ rest) p.listed ∙ append_assoc (take (3 * first) ns) (nodes_from first f) rest in
    let made : rows_from m [] ns ≡ rows_from m (rows ++ part_rows m f) rest = ap (rows_from m []) split ∙ rows_append m first [] (take (3 * first) ns) (nodes_from first f ++ rest) (first_size m ns first within) ∙ part_rows_lem m f rows first count rest in
    ap (λ (x : List (List ℕ)). get_or x k []) made
    ∙ rows_kept m (rows ++ part_rows m f) rest k (omega (arith, length-append rows (part_rows m f), parts_count m f, p.whole))
    ∙ ap (λ (i : ℕ). get_or (rows ++ part_rows m f) i []) (sym root)
    ∙ root_row m f rows first count

-- the last row of a formula's node list
last_row : (m : Model) (f : Formula) → m.nodes ≡ nodes_of f → get_or (rows_of m) (size f - 1) [] ≡ value_row m f
last_row m f e =
    let root : size f - 1 ≡ root_from 0 f = omega arith in
    ap (λ (i : ℕ). get_or (rows_of m) i []) root ∙ ap (λ (rows : List (List ℕ)). get_or rows (root_from 0 f) []) (parts_meaning m f e) ∙ root_row m f [] 0 refl

-- as many nodes as the formula has
node_count_lem : (m : Model) (f : Formula) → m.nodes ≡ nodes_of f → node_count m.nodes ≡ size f
node_count_lem m f e = omega (arith, ap length e, nodes_length 0 f)

pub meaning_of_formula : MeaningOfFormula
unfolding verdict_at model_verdict
meaning_of_formula m f e =
    (λ s l. ap (λ (row : List ℕ). at row s) (last_row m f e) ∙ tab_at (value m f) m.states s l, ap (over_initial m.states m.initial) (ap (λ (n : ℕ). get_or (rows_of m) (n - 1) []) (node_count_lem m f e) ∙ last_row m f e))

pub judged_part : JudgedPart
unfolding verdict_at
judged_part m before after v p k first f part s l =
    written_value m before after v p k s (record { node = omega (arith, part.there); state = l })
    ∙ ap (λ (row : List ℕ). at row s) (part_meaning m k first f part) ∙ tab_at (value m f) m.states s l

pub judged_formula : JudgedFormula
judged_formula m before after v p f e =
    let meant = meaning_of_formula m f e in
    let last : size f - 1 < node_count m.nodes = omega (arith, node_count_lem m f e, size_some f) in
    (λ s l. written_value m before after v p (size f - 1) s (record { node = last; state = l }) ∙ meant.0 s l, answered m before after v p ∙ meant.1)
