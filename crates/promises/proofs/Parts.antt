-- The rows of a formula's nodes are the rows of its parts: one law by induction on the formula, for any rows before and any nodes behind.
use mathlib.Core.Path.{◌≡◌, refl, sym, ap, ap₂, ◌∙◌}
use Prim.Native.Nat.{ℕ, ◌+◌, min, max}
use mathlib.Core.List.{List, [], ◌∷◌, ◌++◌, append_assoc}
use native.Mathlib.Omega.{arith}
use lib.ListN.{length, get_or, length-append, get_or-append}
use lib.Seq.{get_or_at}
use Rattle.values.specs.Values.{neg}
use Rattle.model.specs.Kinds.{kind_of}
use Rattle.model.specs.Model.{Model}
use Rattle.ctl.specs.Nodes.{node_row, node_value}
use Rattle.ctl.specs.Rows.{rows_from}
use Rattle.formula.specs.Tree.{AF, AG, AND, ATOM, AU, AX, EF, EG, EU, EX, Formula, IMPLIES, NOT, OR, Pair, Prefix, TRUE, one, size, two}
use Rattle.formula.specs.Nodes.{nodes_from, pair_kind, prefix_kind, root_from}
use Rattle.formula.specs.Meaning.{value, value_row}
use Rattle.promises.specs.Formulas.{part_rows}
use Rattle.formula.proofs.Sizes.{size_some}
use Rattle.lists.proofs.Rows.{tab_at, tab_same}

-- a node made from its operands' meanings has the meaning of its formula
prefix_row : (m : Model) (p : Prefix) (f : Formula) (a : ℕ) (R : List ℕ) → node_row m (kind_of (prefix_kind p)) a (value_row m f) R ≡ value_row m (one p f)
unfolding node_row node_value kind_of value
prefix_row m NOT f a R = tab_same _ _ m.states (λ s l. ap neg (tab_at (value m f) m.states s l))
prefix_row m EX f a R = refl
prefix_row m AX f a R = refl
prefix_row m EF f a R = refl
prefix_row m AF f a R = refl
prefix_row m EG f a R = refl
prefix_row m AG f a R = refl

pair_row : (m : Model) (q : Pair) (f g : Formula) (a : ℕ) → node_row m (kind_of (pair_kind q)) a (value_row m f) (value_row m g) ≡ value_row m (two q f g)
unfolding node_row node_value kind_of value
pair_row m AND f g a = tab_same _ _ m.states (λ s l. ap₂ min (tab_at (value m f) m.states s l) (tab_at (value m g) m.states s l))
pair_row m OR f g a = tab_same _ _ m.states (λ s l. ap₂ max (tab_at (value m f) m.states s l) (tab_at (value m g) m.states s l))
pair_row m IMPLIES f g a = tab_same _ _ m.states (λ s l. ap₂ (λ (x y : ℕ). max (neg x) y) (tab_at (value m f) m.states s l) (tab_at (value m g) m.states s l))
pair_row m EU f g a = refl
pair_row m AU f g a = refl

-- one row a node
pub parts_count : (m : Model) (f : Formula) → length (part_rows m f) ≡ size f
unfolding part_rows size
parts_count m TRUE = refl
parts_count m (ATOM a) = refl
parts_count m (one p f) = length-append (part_rows m f) (value_row m (one p f) ∷ []) ∙ omega (arith, parts_count m f)
parts_count m (two q f g) =
    let whole : List ℕ = value_row m (two q f g) in
    length-append (part_rows m f) (part_rows m g ++ (whole ∷ [])) ∙ omega (arith, length-append (part_rows m g) (whole ∷ []), parts_count m f, parts_count m g)

-- the last of them is the whole's
pub parts_last : (m : Model) (f : Formula) → (before : List (List ℕ)) × (part_rows m f ≡ before ++ (value_row m f ∷ []))
unfolding part_rows
parts_last m TRUE = ([], refl)
parts_last m (ATOM a) = ([], refl)
parts_last m (one p f) = (part_rows m f, refl)
parts_last m (two q f g) = (part_rows m f ++ part_rows m g, sym (append_assoc (part_rows m f) (part_rows m g) (value_row m (two q f g) ∷ [])))

-- so it is found by the whole's number
pub root_row : (m : Model) (f : Formula) (rows : List (List ℕ)) (n : ℕ) → length rows ≡ n → get_or (rows ++ part_rows m f) (root_from n f) [] ≡ value_row m f
root_row m f rows n e =
    let last = parts_last m f in
    let before : List (List ℕ) = last.0 in
    let row : List ℕ = value_row m f in
    let place : length (rows ++ before) ≡ root_from n f = omega (arith, length-append rows before, length-append before (row ∷ []), ap length last.1, parts_count m f) in
    ap (λ (x : List (List ℕ)). get_or x (root_from n f) []) (ap (λ (x : List (List ℕ)). rows ++ x) last.1 ∙ sym (append_assoc rows before (row ∷ [])))
    ∙ get_or_at (rows ++ before) row [] [] (root_from n f) place

-- the rows of a formula's nodes behind any rows, whatever nodes follow
pub part_rows_lem : (m : Model) (f : Formula) (rows : List (List ℕ)) (n : ℕ) → length rows ≡ n → (rest : List ℕ) → rows_from m rows (nodes_from n f ++ rest) ≡ rows_from m (rows ++ part_rows m f) rest
unfolding part_rows nodes_from rows_from node_row node_value kind_of value
part_rows_lem m TRUE rows n e rest = refl
part_rows_lem m (ATOM a) rows n e rest = refl
part_rows_lem m (one p f) rows n e rest =
    let made : List (List ℕ) = rows ++ part_rows m f in
    let a : ℕ = root_from n f in
    ap (rows_from m rows) (append_assoc (nodes_from n f) (prefix_kind p ∷ a ∷ 0 ∷ []) rest)
    ∙ part_rows_lem m f rows n e (prefix_kind p ∷ a ∷ 0 ∷ rest)
    ∙ ap (λ (x : List ℕ). rows_from m (made ++ (x ∷ [])) rest) (ap (λ (L : List ℕ). node_row m (kind_of (prefix_kind p)) a L (get_or made 0 [])) (root_row m f rows n e) ∙ prefix_row m p f a (get_or made 0 []))
    ∙ ap (λ (x : List (List ℕ)). rows_from m x rest) (append_assoc rows (part_rows m f) (value_row m (one p f) ∷ []))
part_rows_lem m (two q f g) rows n e rest =
    let first : List (List ℕ) = rows ++ part_rows m f in
    let made : List (List ℕ) = first ++ part_rows m g in
    let n' : ℕ = n + size f in
    let a : ℕ = root_from n f in
    let b : ℕ = root_from n' g in
    let node : List ℕ = pair_kind q ∷ a ∷ b ∷ [] in
    let e' : length first ≡ n' = length-append rows (part_rows m f) ∙ omega (arith, parts_count m f) in
    let left : get_or made a [] ≡ value_row m f = get_or-append first (part_rows m g) [] a (omega (arith, size_some f)) ∙ root_row m f rows n e in
    let row : List ℕ = value_row m (two q f g) in
    ap (rows_from m rows) (append_assoc (nodes_from n f) (nodes_from n' g ++ node) rest ∙ ap (λ (x : List ℕ). nodes_from n f ++ x) (append_assoc (nodes_from n' g) node rest))
    ∙ part_rows_lem m f rows n e (nodes_from n' g ++ (node ++ rest))
    ∙ part_rows_lem m g first n' e' (node ++ rest)
    ∙ ap (λ (x : List ℕ). rows_from m (made ++ (x ∷ [])) rest) (ap₂ (node_row m (kind_of (pair_kind q)) a) left (root_row m g first n' e') ∙ pair_row m q f g a)
    ∙ ap (λ (x : List (List ℕ)). rows_from m x rest) (append_assoc first (part_rows m g) (row ∷ []) ∙ append_assoc rows (part_rows m f) (part_rows m g ++ (row ∷ [])))
