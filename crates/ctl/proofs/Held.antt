-- What a space holds after judging: each row where it begins, value by value, and beyond the last row what was there.
use mathlib.Core.Path.{◌≡◌, refl, sym, ap, ap₂, ◌∙◌, subst}
use Prim.Native.Nat.{ℕ, ◌≤◌, ◌<◌}
use mathlib.Core.List.{List, []}
use mathlib.Core.Bool.{Bool, true, false, cond, not}
use native.Mathlib.Omega.{arith}
use lib.ListN.{length, get_or, drop}
use lib.Seq.{drop_at}
use lib.Dec.{ltb}
use borrow.Author.Tests.{lt-ltb, ltb-true, not-false}
use Rattle.lists.specs.Entries.{All, at}
use Rattle.lists.specs.Rows.{fill}
use Rattle.values.specs.Limits.{most_states}
use Rattle.values.specs.Values.{neg}
use Rattle.values.specs.Rows.{bad_row, held, row_begin, row_in, row_values}
use Rattle.kripke.specs.Until.{everywhere, next, opposite, until}
use Rattle.model.specs.Kinds.{Use, a_node, bound, kind_of, uses}
use Rattle.model.specs.Model.{Model, kind_at, left_at, node_count, right_at}
use Rattle.ctl.specs.Answers.{number_due}
use Rattle.ctl.specs.Inside.{operand_row}
use Rattle.ctl.specs.Operators.{RowFine}
use Rattle.ctl.specs.Nodes.{node_row, node_value}
use Rattle.ctl.specs.Rows.{rows_of, stored_rows, verdict_at}
use Rattle.ctl.proofs.FineRows.{rows_fine}
use Rattle.ctl.proofs.NodeLists.{row_of_node, rows_count, rows_whole}
use Rattle.ctl.proofs.Spaces.{operand_in_space, rows_fit, stored_length, value_in_space}
use Rattle.kripke.proofs.Refusals.{accepted}
use Rattle.lists.proofs.Entries.{all_get}
use Rattle.lists.proofs.Rows.{tab_at}
use Rattle.lists.proofs.Tests.{or_neither}
use Rattle.model.proofs.Fine.{judge_fine}
use Rattle.model.proofs.KindLaws.{right_within}

module _ (m : Model) (before : List ℕ) (z : number_due m before ≡ 0) (after : List ℕ) (e : after ≡ fill (stored_rows (rows_of m)) before) where
  abbrev S : ℕ
  S = m.states

  abbrev ns : List ℕ
  ns = m.nodes

  all_fine : All (RowFine S) (rows_of m)
  unfolding rows_of
  all_fine = rows_fine m (judge_fine m (length before) z).small ns

  pub as_many : length (rows_of m) ≡ node_count ns
  unfolding rows_of
  as_many = ap length (sym (rows_whole m ns (judge_fine m (length before) z).nodes.triples)) ∙ rows_count m ns (node_count ns) (omega arith)

  room : row_begin S (length (rows_of m)) ≤ length before
  room = rw as_many (judge_fine m (length before) z).space

  pub held_value : (k s : ℕ) → k < node_count ns → s < S → held S after k s ≡ verdict_at m k s
  unfolding held verdict_at
  held_value k s h l = ap (λ (v : List ℕ). held S v k s) e ∙ value_in_space S (rows_of m) all_fine before room k s (rw as_many h) l

  pub held_beyond : drop (row_begin S (node_count ns)) after ≡ drop (row_begin S (node_count ns)) before
  held_beyond =
      let n : length (stored_rows (rows_of m)) ≡ row_begin S (node_count ns) = stored_length S (rows_of m) all_fine ∙ ap (row_begin S) as_many in
      ap (drop (row_begin S (node_count ns))) e ∙ drop_at (stored_rows (rows_of m)) (drop (length (stored_rows (rows_of m))) before) (row_begin S (node_count ns)) n ∙ ap (λ (k : ℕ). drop k before) n

  -- a node's row in the space: it is a row, and its values are those of its node
  pub row_held : (k : ℕ) → k < node_count ns → (bad_row S (row_in S after k) ≡ false) × (row_values S (row_in S after k) ≡ get_or (rows_of m) k [])
  unfolding operand_row
  row_held k h =
      let few : S ≤ most_states = (accepted S m.transitions (judge_fine m (length before) z).table).few in
      let fit = rows_fit S (rows_of m) all_fine before room few in
      let same = operand_in_space S (rows_of m) all_fine before room k in
      (subst (λ (v : List ℕ). bad_row S (row_in S v k) ≡ false) (sym e) (fit.stand k (rw as_many h)), subst (λ (v : List ℕ). row_values S (row_in S v k) ≡ get_or (rows_of m) k []) (sym e) (rw (lt-ltb k (length (rows_of m)) (rw as_many h)) at same))

  pub row_kept : (k : ℕ) → k < node_count ns → RowFine S (row_values S (row_in S after k))
  row_kept k h = subst (RowFine S) (sym (row_held k h).1) (all_get (RowFine S) [] (rows_of m) all_fine k (rw as_many h))

  -- the numbers of a node stay below their bounds
  node_bounds : (k : ℕ) → k < node_count ns → (left_at ns k < bound (uses (kind_of (kind_at ns k))).0 m.atoms k) × (right_at ns k < bound (uses (kind_of (kind_at ns k))).1 m.atoms k)
  node_bounds k h =
      let p = or_neither (not (ltb (left_at ns k) (bound (uses (kind_of (kind_at ns k))).0 m.atoms k))) (not (ltb (right_at ns k) (bound (uses (kind_of (kind_at ns k))).1 m.atoms k))) ((judge_fine m (length before) z).operands k h) in
      (ltb-true _ _ (not-false _ p.0), ltb-true _ _ (not-false _ p.1))

  -- what the space holds for a node is its value from the rows that it holds for its two numbers, where these are earlier nodes
  node_held : (n k s : ℕ) → k < node_count ns → s < S → kind_at ns k ≡ n → left_at ns k < k → right_at ns k < k → held S after k s ≡ node_value m (kind_of n) (left_at ns k) (row_values S (row_in S after (left_at ns k))) (row_values S (row_in S after (right_at ns k))) s
  unfolding rows_of node_row verdict_at
  node_held n k s h l e a b =
      let left = (row_held (left_at ns k) (omega arith)).1 in
      let right = (row_held (right_at ns k) (omega arith)).1 in
      held_value k s h l
      ∙ ap (λ (r : List ℕ). at r s) (row_of_node m ns (judge_fine m (length before) z).nodes.triples k h a b)
      ∙ tab_at (node_value m (kind_of (kind_at ns k)) (left_at ns k) (get_or (rows_of m) (left_at ns k) []) (get_or (rows_of m) (right_at ns k) [])) S s l
      ∙ ap (λ (x : ℕ). node_value m (kind_of x) (left_at ns k) (get_or (rows_of m) (left_at ns k) []) (get_or (rows_of m) (right_at ns k) []) s) e
      ∙ ap₂ (λ (L R : List ℕ). node_value m (kind_of n) (left_at ns k) L R s) (sym left) (sym right)

  -- so it is for every kind whose left number names a node
  pub part_held : (n k s : ℕ) → k < node_count ns → s < S → kind_at ns k ≡ n → (uses (kind_of n)).0 ≡ a_node → (left_at ns k < k) × (right_at ns k < k) × (held S after k s ≡ node_value m (kind_of n) (left_at ns k) (row_values S (row_in S after (left_at ns k))) (row_values S (row_in S after (right_at ns k))) s)
  part_held n k s h l e u =
      let b = subst (λ (x : ℕ). (left_at ns k < bound (uses (kind_of x)).0 m.atoms k) × (right_at ns k < bound (uses (kind_of x)).1 m.atoms k)) e (node_bounds k h) in
      let left : left_at ns k < k = subst (λ (x : Use). left_at ns k < bound x m.atoms k) u b.0 in
      let right : right_at ns k < k = omega (arith, b.1, right_within n m.atoms k) in
      (left, right, node_held n k s h l e left right)

  -- EX: the greatest value among the successors, of the row that it holds for the part
  pub next_held : (k s : ℕ) → k < node_count ns → s < S → kind_at ns k ≡ 4 → (left_at ns k < k) × (held S after k s ≡ next false m.transitions (row_values S (row_in S after (left_at ns k))) s)
  unfolding kind_of node_value
  next_held k s h l four = let p = part_held 4 k s h l four refl in (p.0, p.2)

  -- E and A until: over the rows that it holds for the two parts
  pub until_held : (all : Bool) (k s : ℕ) → k < node_count ns → s < S → kind_at ns k ≡ cond all 6 5 → (left_at ns k < k) × (right_at ns k < k) × (held S after k s ≡ until all m.transitions (row_values S (row_in S after (left_at ns k))) (row_values S (row_in S after (right_at ns k))) S s)
  unfolding kind_of node_value
  until_held false k s h l five = part_held 5 k s h l five refl
  until_held true k s h l six = part_held 6 k s h l six refl

  -- EF and AF: an until with true on the left
  pub eventually_held : (all : Bool) (k s : ℕ) → k < node_count ns → s < S → kind_at ns k ≡ cond all 11 10 → (left_at ns k < k) × (held S after k s ≡ until all m.transitions (everywhere S) (row_values S (row_in S after (left_at ns k))) S s)
  unfolding kind_of node_value
  eventually_held false k s h l ten = let p = part_held 10 k s h l ten refl in (p.0, p.2)
  eventually_held true k s h l eleven = let p = part_held 11 k s h l eleven refl in (p.0, p.2)

  -- EG and AG: not the other one's "eventually not"
  pub always_held : (all : Bool) (k s : ℕ) → k < node_count ns → s < S → kind_at ns k ≡ cond all 13 12 → (left_at ns k < k) × (held S after k s ≡ neg (until (not all) m.transitions (everywhere S) (opposite S (row_values S (row_in S after (left_at ns k)))) S s))
  unfolding kind_of node_value
  always_held false k s h l twelve = let p = part_held 12 k s h l twelve refl in (p.0, p.2)
  always_held true k s h l thirteen = let p = part_held 13 k s h l thirteen refl in (p.0, p.2)
