-- A list from a place on, a witness from a place on, and the rows that a witness is told from.
use mathlib.Core.Path.{◌≡◌}
use Prim.Native.Nat.{ℕ, zero, suc, ◌+◌, ◌≤◌, ◌<◌}
use mathlib.Core.List.{List, [], ◌∷◌}
use native.Mathlib.Omega.{arith}
use native.Mathlib.Numerals.{add-one}
use lib.ListN.{length, drop, drop_of_length-le}
use lib.Seq.{drop-cons}
use Rattle.lists.specs.Entries.{at}
use Rattle.values.specs.Rows.{value_at}
use Rattle.kripke.specs.Transitions.{Edge}
use Rattle.paths.specs.Questions.{From, Reaches}

pub at_drop : (p : List ℕ) (i : ℕ) → i < length p → drop i p ≡ at p i ∷ drop (i + 1) p
at_drop p i h = rw (add-one, drop-cons p i 0)

-- a list with an entry is its first entry and the rest
pub whole : (p : List ℕ) → 0 < length p → p ≡ at p 0 ∷ drop 1 p
whole p h = at_drop p 0 h

module _ (es : List ℕ) (L R : ℕ → Type 0) where
  -- one place on, and at the last
  pub from_step : (p : List ℕ) (i : ℕ) → i + 1 < length p → From es L R (at p i) (drop (i + 1) p) → L (at p i) × Edge es (at p i) (at p (i + 1)) × From es L R (at p (i + 1)) (drop (i + 1 + 1) p)
  from_step p i h f = rw (at_drop p (i + 1) h) at f

  pub from_back : (p : List ℕ) (i : ℕ) → i + 1 < length p → L (at p i) → Edge es (at p i) (at p (i + 1)) → From es L R (at p (i + 1)) (drop (i + 1 + 1) p) → From es L R (at p i) (drop (i + 1) p)
  from_back p i h l e f = rw (at_drop p (i + 1) h) (l, e, f)

  pub from_last : (p : List ℕ) (i : ℕ) → length p ≤ i + 1 → From es L R (at p i) (drop (i + 1) p) → R (at p i)
  from_last p i h f = rw (drop_of_length-le p {i = i + 1} h) at f

  pub last_from : (p : List ℕ) (i : ℕ) → length p ≤ i + 1 → R (at p i) → From es L R (at p i) (drop (i + 1) p)
  last_from p i h r = rw (drop_of_length-le p {i = i + 1} h) r

  -- from any place on
  pub from_place : (p : List ℕ) (i : ℕ) → i < length p → From es L R (at p 0) (drop 1 p) → From es L R (at p i) (drop (i + 1) p)
  from_place p zero h f = f
  from_place p (suc i) h f = rw (← add-one i) (from_step p i (omega arith) (from_place p i (omega arith) f)).2

-- values that agree with a stored row reach the level where it does
module _ (S level : ℕ) (stored values : List ℕ) (here : (s : ℕ) → s < S → at values s ≡ value_at stored s) where
  pub row_reaches : (s : ℕ) → Reaches S level (at values) s → Reaches S level (value_at stored) s
  row_reaches s h = (h.0, omega (arith, here s h.0, h.1))

  pub reaches_row : (s : ℕ) → Reaches S level (value_at stored) s → Reaches S level (at values) s
  reaches_row s h = (h.0, omega (arith, here s h.0, h.1))

-- predicates that follow from others
pub from_map : (es : List ℕ) (L R L' R' : ℕ → Type 0) → ((s : ℕ) → L s → L' s) → ((s : ℕ) → R s → R' s) → (s : ℕ) (p : List ℕ) → From es L R s p → From es L' R' s p
from_map es L R L' R' f g s [] h = g s h
from_map es L R L' R' f g s (t ∷ p) h = (f s h.0, h.1, from_map es L R L' R' f g t p h.2)
