-- The numbers of a line, read one after the other into the front of a table: each turn of a loop, and its ways out.
use Prim.Native.Nat.{ℕ, suc, ◌+◌, ◌-◌, ◌<◌}
use mathlib.Core.Path.{◌≡◌, ap, sym, ◌∙◌}
use mathlib.Core.List.{List, [], ◌∷◌, ◌++◌, append-nil}
use native.Mathlib.Numerals.{add-one}
use native.Mathlib.Omega.{arith}
use lib.ListN.{length, take, drop, set, length-set}
use lib.Seq.{take-suc-set, take-length}
use Rattle.values.specs.Signs.{stop_before}
use Rattle.text.specs.declared.cursor.Cursor.{Cursor}
use Rattle.text.specs.declared.cursor.Line.{Line}
use Rattle.text.specs.declared.cursor.Line.TheVariants.{Read}
use Rattle.form.specs.Readers.{on, give, valued, number, numbers}
use Rattle.form.specs.Readers.Reading.{found}
use Rattle.text.specs.Inside.{told, first}
use Rattle.form.proofs.Steps.{joined}
use Rattle.text.proofs.Answers.{Stops, stopped, went}

-- j numbers were read: they stand in the front, and the others are read from `at` on
pub record Front (w : ℕ) (text s before now : List ℕ) (j at : ℕ) : Type 0 where
  pub length : length now ≡ length before
  pub all : numbers w s ≡ valued (λ ns. take j now ++ ns) (numbers (w - j) (drop at text))

module _ (w : ℕ) (text s before now : List ℕ) (j at : ℕ) (h : Front w text s before now j at) where
  pub held_more : w ≡ length before → j < w → (l : Line) {x y : ℕ} {c : Cursor} → told first text l ≡ number (stop_before (w - (j + 1))) (drop at text)
      → l ≡ Read x y c → Front w text s before (set now j x) (j + 1) c.at
  unfolding numbers
  held_more fits b l {x} {y} {c} e q =
      let m : w - j ≡ suc (w - (j + 1)) = omega arith in
      let i : j < length now = omega (arith, h.length) in
      let step : numbers (w - j) (drop at text) ≡ valued (λ ns. x ∷ ns) (numbers (w - (j + 1)) (drop c.at text)) =
      rw (m, numbers) (went first (λ n s. on (numbers (w - (j + 1)) s) (λ ns. give (n ∷ ns))) text l _ e q) in
      let front : take (j + 1) (set now j x) ≡ take j now ++ (x ∷ []) = rw add-one (take-suc-set now j x i) in
      record {
        length = length-set now j x ∙ h.length;
        all = h.all ∙ ap (valued (λ ns. take j now ++ ns)) step ∙ joined (take j now) (x ∷ []) (numbers (w - (j + 1)) (drop c.at text))
            ∙ ap (λ (vs : List ℕ). valued (λ ns. vs ++ ns) (numbers (w - (j + 1)) (drop c.at text))) (sym front);
      }

  pub held_stopped : j < w → (l : Line) → told first text l ≡ number (stop_before (w - (j + 1))) (drop at text) → Stops l
      → told (λ x y. now) text l ≡ numbers w s
  unfolding numbers
  held_stopped b l e t =
      let m : w - j ≡ suc (w - (j + 1)) = omega arith in
      let f : told (λ x y. []) text l ≡ numbers (w - j) (drop at text) =
      rw (m, numbers) (stopped first (λ x y. []) (λ n s. on (numbers (w - (j + 1)) s) (λ ns. give (n ∷ ns))) text l _ e t) in
      stopped (λ x y. []) (λ x y. now) (λ ns. give (take j now ++ ns)) text l _ f t ∙ sym h.all

  pub held_done : j ≡ w → w ≡ length before → found now (drop at text) ≡ numbers w s
  unfolding numbers
  held_done e fits =
      let all : j ≡ length now = omega (arith, h.length) in
      let z : w - j ≡ 0 = omega arith in
      let f : numbers (w - j) (drop at text) ≡ found [] (drop at text) = rw z in
      sym (h.all ∙ ap (valued (λ ns. take j now ++ ns)) f ∙ ap (λ (xs : List ℕ). found xs (drop at text)) (append-nil (take j now))
      ∙ ap (λ (m : ℕ). found (take m now) (drop at text)) all
      ∙ ap (λ (ns : List ℕ). found ns (drop at text)) (take-length now))
