-- What a walk is worth for an until, and E and A: the greatest and the least of it over the walks from a state.
use Rattle.std.specs.Prelude.{ℕ, min, max, List, map, Bool, length, take}
use Rattle.lists.specs.Entries.{at}
use Rattle.lists.specs.Rows.{tab}
use Rattle.lists.specs.Choosing.{best, lowest}
use Rattle.values.specs.Values.{top, neg, choose}
use Rattle.kripke.specs.Transitions.{succs}
use Rattle.kripke.specs.Walks.{walks}

-- at place i: the smallest of the right value there and the left values at all earlier places
unfoldable pub place_value : List ℕ → List ℕ → List ℕ → ℕ → ℕ
place_value L R w i = lowest (at R (at w i)) (map (at L) (take i w))

-- of a walk: the greatest of these over its places
unfoldable pub until_value : List ℕ → List ℕ → List ℕ → ℕ
until_value L R w = best max (tab (place_value L R w) (length w))

-- over the walks of n states from s: for E the greatest until-value, for A, "all", the least
unfoldable pub until : Bool → List ℕ → List ℕ → List ℕ → ℕ → ℕ → ℕ
until all es L R n s = best (choose all) (map (until_value L R) (walks es n s))

-- the greatest value of a row among the successors of s; for "all" the least
unfoldable pub next : Bool → List ℕ → List ℕ → ℕ → ℕ
next all es row s = best (choose all) (map (at row) (succs es s))

-- true at each of n states
unfoldable pub everywhere : ℕ → List ℕ
everywhere n = tab (λ (s : ℕ). top) n

-- not, at each of n states
unfoldable pub opposite : ℕ → List ℕ → List ℕ
opposite n row = tab (λ (s : ℕ). neg (at row s)) n

-- right, or left and what comes next
abbrev pub step : ℕ → ℕ → ℕ → ℕ
step l r v = max r (min l v)
