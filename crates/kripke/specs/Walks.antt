-- The walks of exactly n states: what one is, and the list of all of them.
use Rattle.std.specs.Prelude.{◌≡◌, ℕ, zero, suc, List, [], ◌∷◌, map, length}
use Rattle.lists.specs.Rows.{each}
use Rattle.kripke.specs.Transitions.{Edge, succs}

-- the list begins with s
abbrev pub Begins : ℕ → List ℕ → Type 0
Begins s [] = ⊥
Begins s (x ∷ w) = x ≡ s

-- each next entry is a successor of the one before
abbrev pub Joined : List ℕ → List ℕ → Type 0
Joined es [] = Unit {0}
Joined es (x ∷ []) = Unit {0}
Joined es (x ∷ y ∷ w) = Edge es x y × Joined es (y ∷ w)

-- a walk of n states from s
pub record Walk (es : List ℕ) (n s : ℕ) (w : List ℕ) : Type 0 where
  pub size : length w ≡ n
  pub begins : Begins s w
  pub joined : Joined es w

-- all of them
unfoldable pub walks : List ℕ → ℕ → ℕ → List (List ℕ)
walks es zero s = []
walks es (suc zero) s = (s ∷ []) ∷ []
walks es (suc (suc n)) s = map (λ (w : List ℕ). s ∷ w) (each (λ (t : ℕ). walks es (suc n) t) (succs es s))
