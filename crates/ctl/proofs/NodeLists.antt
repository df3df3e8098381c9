-- The rows of a node list, one node after the other.
use mathlib.Core.Path.{◌≡◌, refl, sym, ap, ap₂, ◌∙◌}
use Prim.Native.Nat.{ℕ, zero, suc, ◌+◌, ◌*◌, ◌-◌, ◌%◌, ◌≤◌, ◌<◌}
use mathlib.Core.List.{List, [], ◌∷◌, ◌++◌}
use native.Mathlib.Omega.{arith}
use lib.ListN.{length, get_or, take, drop, length-append, get_or-append}
use lib.Seq.{drop-cons, get_or_at, length-take-le, take-length, take-add}
use Rattle.model.specs.Model.{Model, kind_at, left_at, right_at, node_count}
use Rattle.model.specs.Kinds.{kind_of}
use Rattle.ctl.specs.Nodes.{node_row}
use Rattle.ctl.specs.Rows.{rows_from}

-- three numbers from a place on
take_three : (ns : List ℕ) (i : ℕ) → i < node_count ns → take (3 * (i + 1)) ns ≡ take (3 * i) ns ++ (kind_at ns i ∷ left_at ns i ∷ right_at ns i ∷ [])
take_three ns i h =
    let three : 3 * (i + 1) ≡ 3 * i + 3 = omega arith in
    let one : suc (3 * i) ≡ 3 * i + 1 = omega arith in
    let two : suc (3 * i + 1) ≡ 3 * i + 2 = omega arith in
    let rest : List ℕ = drop (suc (3 * i + 2)) ns in
    ap (λ (k : ℕ). take k ns) three ∙ take-add (3 * i) 3 ns
    ∙ ap (λ (r : List ℕ). take (3 * i) ns ++ take 3 r)
    (drop-cons ns (3 * i) 0 (omega arith)
    ∙ ap (λ (r : List ℕ). kind_at ns i ∷ r) (ap (λ (k : ℕ). drop k ns) one ∙ drop-cons ns (3 * i + 1) 0 (omega arith) ∙ ap (λ (r : List ℕ). left_at ns i ∷ r) (ap (λ (k : ℕ). drop k ns) two ∙ drop-cons ns (3 * i + 2) 0 (omega arith))))

-- the row of one more node
unfoldable pub row_more : Model → List (List ℕ) → ℕ → ℕ → ℕ → List ℕ
row_more m rows k a b = node_row m (kind_of k) a (get_or rows a []) (get_or rows b [])

-- the nodes of two lists, one after the other
pub rows_append : (m : Model) (n : ℕ) (rows : List (List ℕ)) (xs ys : List ℕ) → length xs ≡ 3 * n → rows_from m rows (xs ++ ys) ≡ rows_from m (rows_from m rows xs) ys
unfolding rows_from
rows_append m zero rows [] ys e = refl
rows_append m zero rows (x ∷ xs) ys e = absurd (omega arith)
rows_append m (suc n) rows [] ys e = absurd (omega arith)
rows_append m (suc n) rows (x ∷ []) ys e = absurd (omega arith)
rows_append m (suc n) rows (x ∷ y ∷ []) ys e = absurd (omega arith)
rows_append m (suc n) rows (x ∷ y ∷ z ∷ xs) ys e = rows_append m n (rows ++ (node_row m (kind_of x) y (get_or rows y []) (get_or rows z []) ∷ [])) xs ys (omega arith)

rows_length : (m : Model) (n : ℕ) (rows : List (List ℕ)) (xs : List ℕ) → length xs ≡ 3 * n → length (rows_from m rows xs) ≡ length rows + n
unfolding rows_from
rows_length m zero rows [] e = omega arith
rows_length m zero rows (x ∷ xs) e = absurd (omega arith)
rows_length m (suc n) rows [] e = absurd (omega arith)
rows_length m (suc n) rows (x ∷ []) e = absurd (omega arith)
rows_length m (suc n) rows (x ∷ y ∷ []) e = absurd (omega arith)
rows_length m (suc n) rows (x ∷ y ∷ z ∷ xs) e =
    let row : List ℕ = node_row m (kind_of x) y (get_or rows y []) (get_or rows z []) in
    rows_length m n (rows ++ (row ∷ [])) xs (omega arith) ∙ omega (arith, length-append rows (row ∷ []))

-- a row once made stays, whatever nodes follow
pub rows_kept : (m : Model) (rows : List (List ℕ)) (ns : List ℕ) (j : ℕ) → j < length rows → get_or (rows_from m rows ns) j [] ≡ get_or rows j []
unfolding rows_from
rows_kept m rows [] j h = refl
rows_kept m rows (k ∷ []) j h = refl
rows_kept m rows (k ∷ a ∷ []) j h = refl
rows_kept m rows (k ∷ a ∷ b ∷ ns) j h =
    let row : List ℕ = node_row m (kind_of k) a (get_or rows a []) (get_or rows b []) in
    rows_kept m (rows ++ (row ∷ [])) ns j (omega (arith, length-append rows (row ∷ []))) ∙ get_or-append rows (row ∷ []) [] j h

module _ (m : Model) (ns : List ℕ) where
  -- the rows of the first i nodes
  abbrev pub first_rows : ℕ → List (List ℕ)
  first_rows i = rows_from m [] (take (3 * i) ns)

  pub first_size : (i : ℕ) → i ≤ node_count ns → length (take (3 * i) ns) ≡ 3 * i
  first_size i h = length-take-le (3 * i) ns (omega arith)

  pub rows_count : (i : ℕ) → i ≤ node_count ns → length (first_rows i) ≡ i
  rows_count i h = rows_length m i [] (take (3 * i) ns) (first_size i h) ∙ omega arith

  pub rows_next : (i : ℕ) → i < node_count ns → first_rows (i + 1) ≡ first_rows i ++ (row_more m (first_rows i) (kind_at ns i) (left_at ns i) (right_at ns i) ∷ [])
  unfolding rows_from row_more
  rows_next i h = ap (rows_from m []) (take_three ns i h) ∙ rows_append m i [] (take (3 * i) ns) (kind_at ns i ∷ left_at ns i ∷ right_at ns i ∷ []) (first_size i (omega arith))

  pub rows_none : first_rows 0 ≡ []
  unfolding rows_from
  rows_none = let e : 3 * 0 ≡ 0 = omega arith in ap (λ (k : ℕ). rows_from m [] (take k ns)) e

  pub rows_whole : length ns % 3 ≡ 0 → first_rows (node_count ns) ≡ rows_from m [] ns
  rows_whole h = let e : 3 * node_count ns ≡ length ns = omega arith in ap (rows_from m []) (ap (λ (k : ℕ). take k ns) e ∙ take-length ns)

  -- so it is among the first nodes of a list
  pub rows_stay : (d i j : ℕ) → i + d ≤ node_count ns → j < i → get_or (first_rows (i + d)) j [] ≡ get_or (first_rows i) j []
  rows_stay zero i j h l = let e : i + 0 ≡ i = omega arith in ap (λ (n : ℕ). get_or (first_rows n) j []) e
  rows_stay (suc d) i j h l =
      let e : i + suc d ≡ i + d + 1 = omega arith in
      let row : List ℕ = row_more m (first_rows (i + d)) (kind_at ns (i + d)) (left_at ns (i + d)) (right_at ns (i + d)) in
      ap (λ (n : ℕ). get_or (first_rows n) j []) e ∙ ap (λ (rs : List (List ℕ)). get_or rs j []) (rows_next (i + d) (omega arith))
      ∙ get_or-append (first_rows (i + d)) (row ∷ []) [] j (omega (arith, rows_count (i + d) (omega arith)))
      ∙ rows_stay d i j (omega arith) l

  -- so the row of node k is made from the rows of its operands, which come before it
  pub row_of_node : length ns % 3 ≡ 0 → (k : ℕ) → k < node_count ns → left_at ns k < k → right_at ns k < k → get_or (rows_from m [] ns) k [] ≡ node_row m (kind_of (kind_at ns k)) (left_at ns k) (get_or (rows_from m [] ns) (left_at ns k) []) (get_or (rows_from m [] ns) (right_at ns k) [])
  unfolding row_more
  row_of_node triples k h a b =
      let n : ℕ = node_count ns in
      let rest : k + 1 + (n - (k + 1)) ≡ n = omega arith in
      let rest' : k + (n - k) ≡ n = omega arith in
      let here : (j : ℕ) → j < k → get_or (rows_from m [] ns) j [] ≡ get_or (first_rows k) j [] = λ j l. ap (λ (rs : List (List ℕ)). get_or rs j []) (sym (rows_whole triples)) ∙ ap (λ (i : ℕ). get_or (first_rows i) j []) (sym rest') ∙ rows_stay (n - k) k j (omega arith) l in
      ap (λ (rs : List (List ℕ)). get_or rs k []) (sym (rows_whole triples))
      ∙ ap (λ (i : ℕ). get_or (first_rows i) k []) (sym rest)
      ∙ rows_stay (n - (k + 1)) (k + 1) k (omega arith) (omega arith)
      ∙ ap (λ (rs : List (List ℕ)). get_or rs k []) (rows_next k h)
      ∙ get_or_at (first_rows k) (row_more m (first_rows k) (kind_at ns k) (left_at ns k) (right_at ns k)) [] [] k (rows_count k (omega arith))
      ∙ ap₂ (node_row m (kind_of (kind_at ns k)) (left_at ns k)) (sym (here (left_at ns k) a)) (sym (here (right_at ns k) b))
