-- Values laid over a table from a place on: the loop that lays them, and what the table holds then.
use Prim.Native.Nat.{ℕ, zero, suc, ◌+◌, ◌≤◌, ◌<◌}
use mathlib.Core.Path.{◌≡◌, refl, ap, sym, ◌∙◌}
use mathlib.Core.List.{List, [], ◌∷◌, ◌++◌, map}
use native.Mathlib.Numerals.{add-one}
use native.Mathlib.Nat.{zero-add}
use native.Mathlib.Omega.{arith}
use lib.ListN.{length, take, drop, set, length-append}
use lib.Seq.{length-take-le, take_at, drop_at, paste, paste-zero, paste-suc, length-paste}
use Rattle.lists.specs.Entries.{at}
use Rattle.lists.specs.Rows.{fill, laid}

-- a table whose first j values of s are laid from `to` on
pub record Laying (s : List ℕ) (n to : ℕ) (before now : List ℕ) (j : ℕ) : Type 0 where
  pub within : j ≤ n
  pub length : length now ≡ length before
  pub table : now ≡ paste before to s j

module _ (s : List ℕ) (n to : ℕ) (before : List ℕ) (room : n ≤ length s) (space : to + n ≤ length before) where
  pub laying_none : Laying s n to before before 0
  laying_none = record { within = omega arith; length = refl; table = paste-zero before to s }

  pub laying_more : (now : List ℕ) (j v : ℕ) → Laying s n to before now j → j < n → v ≡ at s j → Laying s n to before (set now (to + j) v) (j + 1)
  laying_more now j v l b e =
      let t : set now (to + j) v ≡ paste before to s (j + 1) =
      ap (λ (d : List ℕ). set d (to + j) v) l.table ∙ ap (λ (x : ℕ). set (paste before to s j) (to + j) x) e
      ∙ paste-suc before to s j 0 (omega arith) (omega arith) ∙ ap (paste before to s) (sym (add-one j)) in
      record { within = omega arith; length = ap length t ∙ length-paste before to s (j + 1) (omega arith) (omega arith); table = t }

  pub laying_done : (now : List ℕ) (j : ℕ) → Laying s n to before now j → n ≤ j → now ≡ laid to (take n s) before
  laying_done now j l h =
      let q : j ≡ n = omega (arith, l.within) in
      l.table ∙ ap (paste before to s) q ∙ ap (λ (m : ℕ). take to before ++ take n s ++ drop (to + m) before) (sym (length-take-le n s room))

-- what stands in a table then, up to the values' end and behind it
module _ (to : ℕ) (xs before : List ℕ) (room : to ≤ length before) where
  sized : length (take to before ++ xs) ≡ to + length xs
  sized = length-append (take to before) xs ∙ ap (λ (m : ℕ). m + length xs) (length-take-le to before room)

  pub laid_take : take (to + length xs) (laid to xs before) ≡ take to before ++ xs
  laid_take = take_at (take to before ++ xs) (drop (to + length xs) before) (to + length xs) sized

  pub laid_drop : drop (to + length xs) (laid to xs before) ≡ drop (to + length xs) before
  laid_drop = drop_at (take to before ++ xs) (drop (to + length xs) before) (to + length xs) sized

-- an entry of a mapped part
pub map_at : (f : ℕ → ℕ) (l : List ℕ) (i : ℕ) → i < length l → at (map f l) i ≡ f (at l i)
map_at f [] i h = absurd (omega arith)
map_at f (x ∷ l) zero h = refl
map_at f (x ∷ l) (suc i) h = map_at f l i (omega arith)

pub map_take : (f : ℕ → ℕ) (n : ℕ) (l : List ℕ) → take n (map f l) ≡ map f (take n l)
map_take f zero l = refl
map_take f (suc n) [] = refl
map_take f (suc n) (x ∷ l) = ap (λ (r : List ℕ). f x ∷ r) (map_take f n l)
