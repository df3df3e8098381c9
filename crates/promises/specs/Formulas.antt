-- What the studio's formulas mean: judging the node list of a formula gives the formula's own meaning, node by node. It holds of every model;
-- `value` says the meaning, clause by clause, over the tree.
use Rattle.std.specs.Prelude.{◌≡◌, ℕ, ◌-◌, ◌<◌, List, [], ◌∷◌, ◌++◌, get_or}
use Rattle.model.specs.Model.{Model}
use Rattle.ctl.specs.Rows.{rows_of, verdict_at, model_verdict, over_initial}
use Rattle.formula.specs.Tree.{Formula, TRUE, ATOM, one, two, size}
use Rattle.formula.specs.Nodes.{nodes_of}
use Rattle.formula.specs.Meaning.{value, value_row}
use Rattle.formula.specs.Answers.{PartAt}
use Rattle.promises.specs.Verdicts.{written, Accepting}

-- the row of each part of a formula, in the order of the nodes: operands first, left before right, the whole last
unfoldable pub part_rows : Model → Formula → List (List ℕ)
part_rows m TRUE = value_row m TRUE ∷ []
part_rows m (ATOM a) = value_row m (ATOM a) ∷ []
part_rows m (one p f) = part_rows m f ++ (value_row m (one p f) ∷ [])
part_rows m (two q f g) = part_rows m f ++ (part_rows m g ++ (value_row m (two q f g) ∷ []))

-- The rows of a formula's node list are the meanings of its parts, one by one.
abbrev pub PartsMeaning : Type 0
PartsMeaning = (m : Model) (f : Formula) → m.nodes ≡ nodes_of f → rows_of m ≡ part_rows m f

-- In any node list, where node k is the whole of a formula, its row is that formula's meaning.
abbrev pub PartMeaning : Type 0
PartMeaning = (m : Model) (k first : ℕ) (f : Formula) → PartAt m.nodes k first f → get_or (rows_of m) k [] ≡ value_row m f

-- So the verdict of the last node at each state is the formula's value there, and the model's verdict is that of its row.
abbrev pub MeaningOfFormula : Type 0
MeaningOfFormula = (m : Model) (f : Formula) → m.nodes ≡ nodes_of f
    → ((s : ℕ) → s < m.states → verdict_at m (size f - 1) s ≡ value m f s) × (model_verdict m ≡ over_initial m.states m.initial (value_row m f))

-- What `judge` writes for a node that is the whole of a formula is the formula's value at each state.
abbrev pub JudgedPart : Type 0
JudgedPart = Accepting (λ m before after v. (k first : ℕ) (f : Formula) → PartAt m.nodes k first f → (s : ℕ) → s < m.states → written m after k s ≡ value m f s)

-- And where the node list is a formula's, that is what stands for the last node, and the answer is the verdict of its row.
abbrev pub JudgedFormula : Type 0
JudgedFormula = Accepting (λ m before after v. (f : Formula) → m.nodes ≡ nodes_of f
    → ((s : ℕ) → s < m.states → written m after (size f - 1) s ≡ value m f s) × (v.0 ≡ over_initial m.states m.initial (value_row m f)))
