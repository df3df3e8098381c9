-- The rows of a node list have one value a state, each at most 2, and a node's row goes by its operands' values alone.
use Rattle.lists.specs.Rows.{fill, laid, tab}
use mathlib.Core.Path.{◌≡◌, refl, sym, ap, ap₂, ◌∙◌, subst, subst₂}
use Prim.Native.Nat.{ℕ, ◌+◌, ◌*◌, ◌%◌, ◌≤◌, ◌<◌}
use mathlib.Core.List.{List, [], ◌∷◌, ◌++◌}
use native.Mathlib.Omega.{arith}
use native.Mathlib.Nat.{mul-le-mul_right}
use lib.ListN.{length, get_or, take}
use lib.Seq.{get_or_at}
use Rattle.ctl.specs.Inside.{Judgeable, RowsFit, node_row_at, operand_row}
use Rattle.model.specs.Kinds.{kind_of}
use Rattle.model.specs.declared.kinds.Kind.{Kind}
use Rattle.model.specs.Model.{Model, kind_at, left_at, right_at, node_count}
use Rattle.ctl.specs.Operators.{RowFine}
use Rattle.ctl.specs.Nodes.{node_row, node_value}
use Rattle.ctl.specs.Rows.{rows_from, stored_rows}
use Rattle.values.specs.Rows.{row_begin, row_size, stored_row}
use Rattle.values.specs.Values.{top}
use Rattle.lists.specs.Entries.{All, at}
use Rattle.ctl.proofs.NodeLists.{first_rows, row_more, rows_count, rows_next, rows_none, rows_whole}
use Rattle.ctl.proofs.Related.{equal, node_related, rows_related, small}
use Rattle.ctl.proofs.Spaces.{operand_in_space, rows_fit, space_length, space_more, space_none}
use Rattle.lists.proofs.Entries.{all_from, all_get}
use Rattle.lists.proofs.Rows.{length_tab, tab_same}

rows_wide : (m : Model) (rows : List (List ℕ)) → All (λ (row : List ℕ). length row ≡ m.states) rows → (ns : List ℕ) → All (λ (row : List ℕ). length row ≡ m.states) (rows_from m rows ns)
unfolding rows_from node_row
rows_wide m rows w [] = w
rows_wide m rows w (k ∷ []) = w
rows_wide m rows w (k ∷ a ∷ []) = w
rows_wide m rows w (k ∷ a ∷ b ∷ ns) = rows_wide m (rows ++ (_ ∷ [])) (all_more rows w (tab (node_value m (kind_of k) a (get_or rows a []) (get_or rows b [])) m.states) (length_tab _ m.states)) ns
  where
    all_more : (rows : List (List ℕ)) → All (λ (row : List ℕ). length row ≡ m.states) rows → (row : List ℕ) → length row ≡ m.states → All (λ (row : List ℕ). length row ≡ m.states) (rows ++ (row ∷ []))
    all_more [] w row e = (e, tt)
    all_more (x ∷ rows) w row e = (w.0, all_more rows w.1 row e)

pub rows_fine : (m : Model) → ((i : ℕ) → at m.labels i ≤ top) → (ns : List ℕ) → All (RowFine m.states) (rows_from m [] ns)
rows_fine m h ns =
    let r = rows_related (λ (a b : ℕ). a ≤ top) small m m.labels h ns in
    all_from (RowFine m.states) [] (rows_from m [] ns) (λ k l. record { size = all_get (λ (row : List ℕ). length row ≡ m.states) [] (rows_from m [] ns) (rows_wide m [] tt ns) k l; small = r.here k })

pub node_row_same : (m : Model) (k : Kind) (a : ℕ) (L M R Q : List ℕ) → ((s : ℕ) → at L s ≡ at M s) → ((s : ℕ) → at R s ≡ at Q s) → tab (node_value m k a L R) m.states ≡ node_row m k a M Q
unfolding node_row
node_row_same m k a L M R Q l r = tab_same _ _ m.states (λ s h. node_related (λ (a b : ℕ). a ≡ b) equal m m.labels (λ i. refl) k a L M R Q l r s)

module _ (m : Model) (begins ns before : List ℕ) (J : Judgeable m begins) (room : row_begin m.states (node_count ns) ≤ length before) (i : ℕ) (within : i ≤ node_count ns) (space : List ℕ) (holds : space ≡ fill (stored_rows (first_rows m ns i)) before) where
  abbrev S : ℕ
  S = m.states

  abbrev rows : List (List ℕ)
  rows = first_rows m ns i

  many : length rows ≡ i
  many = rows_count m ns i within

  fine : All (RowFine S) rows
  fine = rows_fine m J.small (take (3 * i) ns)

  enough_room : row_begin S (length rows) ≤ length before
  unfolding row_begin
  enough_room = rw many (omega (arith, mul-le-mul_right (row_size S) within, room))

  -- the rows so far stand in the space, which is as long as before
  pub space_fit : RowsFit S i space × (length space ≡ length before)
  space_fit = (subst₂ (RowsFit S) many (sym holds) (rows_fit S rows fine before enough_room J.tables.accepted.few), ap length holds ∙ space_length S rows fine before enough_room)

  pub operand_held : (k : ℕ) → operand_row S space i k ≡ get_or rows k []
  operand_held k = subst₂ (λ (v : List ℕ) (n : ℕ). operand_row S v n k ≡ get_or rows k []) (sym holds) many (operand_in_space S rows fine before enough_room k)

  -- and with the next node's row the next ones do
  pub space_next : i < node_count ns → laid (row_begin S i) (stored_row (node_row_at m ns space i)) space ≡ fill (stored_rows (first_rows m ns (i + 1))) before
  unfolding node_row_at row_more
  space_next h =
      let row : List ℕ = row_more m rows (kind_at ns i) (left_at ns i) (right_at ns i) in
      let same : node_row_at m ns space i ≡ row = ap₂ (node_row m (kind_of (kind_at ns i)) (left_at ns i)) (operand_held (left_at ns i)) (operand_held (right_at ns i)) in
      let next : first_rows m ns (i + 1) ≡ rows ++ (row ∷ []) = rows_next m ns i h in
      let last : RowFine S row = subst (RowFine S) (get_last next) (all_get (RowFine S) [] (first_rows m ns (i + 1)) (rows_fine m J.small (take (3 * (i + 1)) ns)) i (omega (arith, rows_count m ns (i + 1) (omega arith)))) in
      ap (λ (r : List ℕ). laid (row_begin S i) (stored_row r) space) same
      ∙ ap (λ (v : List ℕ). laid (row_begin S i) (stored_row row) v) holds
      ∙ ap (λ (n : ℕ). laid (row_begin S n) (stored_row row) (fill (stored_rows rows) before)) (sym many)
      ∙ space_more S rows fine before enough_room row last
      ∙ ap (λ (rs : List (List ℕ)). fill (stored_rows rs) before) (sym next)
    where
      get_last : {row : List ℕ} {all : List (List ℕ)} → all ≡ rows ++ (row ∷ []) → get_or all i [] ≡ row
      get_last {row} e = ap (λ (rs : List (List ℕ)). get_or rs i []) e ∙ get_or_at rows row [] [] i many

-- row i ends before row n begins
pub next_within : (S i n : ℕ) → i < n → row_begin S i + row_size S ≤ row_begin S n
unfolding row_begin
next_within S i n h = omega (arith, mul-le-mul_right (row_size S) h)

-- all rows stand in the space at the end, and each is read back
pub rows_held : (m : Model) (begins ns before : List ℕ) → Judgeable m begins → row_begin m.states (node_count ns) ≤ length before → length ns % 3 ≡ 0 → (space : List ℕ) → space ≡ fill (stored_rows (rows_from m [] ns)) before → RowsFit m.states (node_count ns) space × ((k : ℕ) → operand_row m.states space (node_count ns) k ≡ get_or (rows_from m [] ns) k [])
rows_held m begins ns before J room triples space holds =
    let all : first_rows m ns (node_count ns) ≡ rows_from m [] ns = rows_whole m ns triples in
    let here : space ≡ fill (stored_rows (first_rows m ns (node_count ns))) before = holds ∙ ap (λ (rs : List (List ℕ)). fill (stored_rows rs) before) (sym all) in
    ((space_fit m begins ns before J room (node_count ns) (omega arith) space here).0, λ k. operand_held m begins ns before J room (node_count ns) (omega arith) space here k ∙ ap (λ (rs : List (List ℕ)). get_or rs k []) all)

-- before the first node nothing stands in the space
pub space_start : (m : Model) (ns before : List ℕ) → before ≡ fill (stored_rows (first_rows m ns 0)) before
space_start m ns before = sym (ap (λ (rs : List (List ℕ)). fill (stored_rows rs) before) (rows_none m ns) ∙ space_none before)
