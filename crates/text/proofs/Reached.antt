-- Lines of one sort, read one after the other into the front of a table: each turn of a loop, and its ways out.
use Prim.Native.Nat.{ℕ, suc, ◌+◌, ◌-◌, ◌*◌, ◌≤◌, ◌<◌}
use mathlib.Core.Path.{◌≡◌, ap, sym, ◌∙◌}
use mathlib.Core.List.{List, [], ◌++◌, append-nil}
use native.Mathlib.Numerals.{add-one}
use native.Mathlib.Nat.{zero-add, mul-suc, mul-le-mul_left}
use native.Mathlib.Omega.{arith}
use lib.ListN.{length, take, drop}
use lib.Seq.{drop-drop}
use Rattle.lists.specs.Rows.{laid}
use Rattle.text.specs.declared.cursor.Cursor.{Cursor}
use Rattle.text.specs.declared.cursor.Line.{Line}
use Rattle.text.specs.declared.cursor.Line.TheVariants.{Read}
use Rattle.form.specs.Readers.{Reading, Reader, on, give, valued, lines, row_line}
use Rattle.form.specs.Readers.Reading.{found}
use Rattle.text.specs.Inside.{told, after, LineRead, LinesRead}
use Rattle.form.proofs.Steps.{joined}
use Rattle.lists.proofs.Laid.{laid_take, laid_drop}
use Rattle.form.proofs.Readings.{row_size_lem}
use Rattle.text.proofs.Answers.{Stops, stopped, took, missed, missed_table, whole}

-- k lines of w values were read: they stand in the front, and the other lines are read from `at` on
pub record Reached (p : Reader (List ℕ)) (w n : ℕ) (text s before now : List ℕ) (k at : ℕ) : Type 0 where
  pub length : length now ≡ length before
  pub rest : drop (w * k) now ≡ drop (w * k) before
  pub all : lines p n s ≡ valued (λ ws. take (w * k) now ++ ws) (lines p (n - k) (drop at text))

one_more : (w k : ℕ) → w * (k + 1) ≡ w * k + w
one_more w k = rw add-one (mul-suc w k)

room : (w k n : ℕ) → k < n → w * k + w ≤ w * n
room w k n h = rw (← one_more w k) (mul-le-mul_left w (omega arith))

-- what is the same behind m entries is the same behind more
behind : (m n : ℕ) (l r : List ℕ) → m ≤ n → drop m l ≡ drop m r → drop n l ≡ drop n r
behind m n l r h e =
    let d : n ≡ m + (n - m) = omega arith in
    rw d (sym (drop-drop (n - m) m l) ∙ ap (drop (n - m)) e ∙ drop-drop (n - m) m r)

lines_step : (p : Reader (List ℕ)) (m : ℕ) (s xs rest : List ℕ) → p s ≡ found xs rest → lines p (suc m) s ≡ valued (λ ws. xs ++ ws) (lines p m rest)
unfolding lines
lines_step p m s xs rest e = ap (λ (o : Reading (List ℕ)). on o (λ vs t. valued (λ ws. vs ++ ws) (lines p m t))) e

module _ (p : Reader (List ℕ)) (w n : ℕ) (text s before now : List ℕ) (k at : ℕ) (r : Reached p w n text s before now k at) where
  pub reached_more : ((s xs rest : List ℕ) → p s ≡ found xs rest → length xs ≡ w) → w * n ≤ length before → k < n
      → (next : List ℕ) (l : Line) {x y : ℕ} {c : Cursor} → LineRead (p (drop at text)) text (w * k) now next l → l ≡ Read x y c → length next ≡ length now
      → Reached p w n text s before next (k + 1) c.at
  reached_more sized fits h next l {x} {y} {c} one q same =
      let t = took text (w * k) now next (p (drop at text)) l one q in
      let xs = t.values in
      let i : length xs ≡ w = sized (drop at text) xs (drop c.at text) t.line in
      let j : w * (k + 1) ≡ w * k + length xs = one_more w k ∙ ap (λ (m : ℕ). w * k + m) (sym i) in
      let f : w * k ≤ length now = omega (arith, r.length, room w k n h) in
      let m : n - k ≡ suc (n - (k + 1)) = omega arith in
      let front : take (w * (k + 1)) next ≡ take (w * k) now ++ xs = ap (λ (m : ℕ). take m next) j ∙ ap (take (w * k + length xs)) t.table ∙ laid_take (w * k) xs now f in
      let back : drop (w * (k + 1)) next ≡ drop (w * (k + 1)) now =
      ap (λ (m : ℕ). drop m next) j ∙ ap (drop (w * k + length xs)) t.table ∙ laid_drop (w * k) xs now f ∙ ap (λ (m : ℕ). drop m now) (sym j) in
      let step : lines p (n - k) (drop at text) ≡ valued (λ ws. xs ++ ws) (lines p (n - (k + 1)) (drop c.at text)) =
      ap (λ (i : ℕ). lines p i (drop at text)) m ∙ lines_step p (n - (k + 1)) (drop at text) xs (drop c.at text) t.line in
      record {
        length = same ∙ r.length;
        rest = back ∙ behind (w * k) (w * (k + 1)) now before (mul-le-mul_left w (omega arith)) r.rest;
        all = r.all ∙ ap (valued (λ ws. take (w * k) now ++ ws)) step ∙ joined (take (w * k) now) xs (lines p (n - (k + 1)) (drop c.at text))
            ∙ ap (λ (vs : List ℕ). valued (λ ws. vs ++ ws) (lines p (n - (k + 1)) (drop c.at text))) (sym front);
      }

  -- a line that was not read ends the loop, and so does the last
  pub reached_stopped : k < n → (next : List ℕ) (l : Line) → LineRead (p (drop at text)) text (w * k) now next l → Stops l
      → LinesRead (lines p n s) text (w * n) before next l
  unfolding lines
  reached_stopped h next l one t =
      let m : n - k ≡ suc (n - (k + 1)) = omega arith in
      let e : told (λ x y. []) text l ≡ lines p (n - k) (drop at text) = rw (m, lines) (missed (λ x y. []) _ text (p (drop at text)) l one.says t) in
      let same : next ≡ now = missed_table text (w * k) now next (p (drop at text)) l one t in
      record {
        says = stopped (λ x y. []) (λ x y. take (w * n) next) (λ ws. give (take (w * k) now ++ ws)) text l _ e t ∙ sym r.all;
        rest = ap (drop (w * n)) same ∙ behind (w * k) (w * n) now before (mul-le-mul_left w (omega arith)) r.rest;
      }

  pub reached_done : k ≡ n → (c : Cursor) → c.at ≡ at → LinesRead (lines p n s) text (w * n) before now (Read 0 0 c)
  unfolding lines
  reached_done e c q =
      let z : n - k ≡ 0 = omega arith in
      let f : lines p (n - k) (drop at text) ≡ found [] (drop at text) = rw z in
      record {
        says = sym (r.all ∙ ap (valued (λ ws. take (w * k) now ++ ws)) f ∙ ap (λ (xs : List ℕ). found xs (drop at text)) (append-nil (take (w * k) now))
            ∙ ap (λ (m : ℕ). found (take (w * m) now) (drop at text)) e ∙ ap (λ (m : ℕ). found (take (w * n) now) (drop m text)) (sym q));
        rest = ap (λ (m : ℕ). drop (w * m) now) (sym e) ∙ r.rest ∙ ap (λ (m : ℕ). drop (w * m) before) e;
      }

-- a row that was read into the front of a table stands there
pub row_front : (k signs : List ℕ) (n : ℕ) (text s before now : List ℕ) (l : Line) → LineRead (row_line k signs n s) text 0 before now l
    → told (λ x y. take n now) text l ≡ row_line k signs n s
row_front k signs n text s before now l one = whole (take n now) text l (row_line k signs n s) stands one.says
  where
    stands : (xs rest : List ℕ) → row_line k signs n s ≡ found xs rest → xs ≡ take n now
    stands xs rest f =
        let i : length xs ≡ n = row_size_lem k signs n s xs rest f in
        let t : now ≡ laid 0 xs before = one.table ∙ ap (λ (o : Reading (List ℕ)). after o 0 before) f in
        sym (ap (λ (m : ℕ). take m now) (sym i ∙ sym (zero-add (length xs))) ∙ ap (take (0 + length xs)) t ∙ laid_take 0 xs before (omega arith))
