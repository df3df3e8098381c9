-- The front of a list, entry by entry.
use mathlib.Core.Path.{◌≡◌, sym, ap, ◌∙◌}
use Prim.Native.Nat.{ℕ, ◌≤◌}
use mathlib.Core.List.{List, ◌++◌}
use lib.ListN.{length, take, drop}
use lib.Seq.{length-take-le}
use Rattle.std.proofs.lemmas.List.{get_or-take, take-append-drop}
use Rattle.lists.specs.Entries.{at}
use Rattle.lists.specs.Rows.{Filled, tab}
use Rattle.lists.proofs.Rows.{tab_own, tab_same}

front : (n : ℕ) (xs : List ℕ) → n ≤ length xs → take n xs ≡ tab (at xs) n
front n xs h = sym (tab_own (take n xs)) ∙ ap (tab (at (take n xs))) (length-take-le n xs h) ∙ tab_same _ _ n (λ s l. get_or-take n xs s 0 l)

-- the front copied
pub copied : (n : ℕ) (source row now : List ℕ) → n ≤ length source → now ≡ take n source → Filled (at source) n row (now ++ drop n row)
copied n source row now h e = ap (λ (xs : List ℕ). xs ++ drop n row) (e ∙ front n source h)

-- and a front that is the same already
pub copied_already : (n : ℕ) (source row : List ℕ) → n ≤ length source → take n row ≡ take n source → Filled (at source) n row row
copied_already n source row h e = sym (take-append-drop n row) ∙ copied n source row (take n row) h e
