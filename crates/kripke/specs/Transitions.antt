-- Transitions as a flat list from, to, from, to, ..; a state's successors; and what makes the list a graph of S states.
use Rattle.std.specs.Prelude.{◌≡◌, ℕ, zero, suc, ◌+◌, ◌*◌, ◌/◌, ◌<◌, List, [], ◌∷◌, Bool, true, cond, ◌&&◌, ◌||◌, ◌⊎◌, length, eqb, ltb}
use Rattle.lists.specs.Entries.{at, Some, All}

-- how many transitions there are
abbrev pub count : List ℕ → ℕ
count es = length es / 2

-- where transition k begins, and where it ends
abbrev pub from : List ℕ → ℕ → ℕ
from es k = at es (2 * k)

abbrev pub to : List ℕ → ℕ → ℕ
to es k = at es (2 * k + 1)

-- there is a transition from x to y
abbrev pub Edge : List ℕ → ℕ → ℕ → Type 0
Edge [] x y = ⊥
Edge (f ∷ []) x y = ⊥
Edge (f ∷ t ∷ es) x y = ((f ≡ x) × (t ≡ y)) ⊎ Edge es x y

-- the states that s has a transition to, in the order of the list
unfoldable pub succs : List ℕ → ℕ → List ℕ
succs [] s = []
succs (f ∷ []) s = []
succs (f ∷ t ∷ es) s = cond (eqb f s) (t ∷ succs es s) (succs es s)

-- transition j comes before transition k: by a smaller from, or by the same from and a smaller to
abbrev pub comes_before : List ℕ → ℕ → ℕ → Bool
comes_before es j k = ltb (from es j) (from es k) || (eqb (from es j) (from es k) && ltb (to es j) (to es k))

-- strictly ascending: each transition comes before the next
abbrev pub Ascending : List ℕ → Type 0
Ascending es = (k : ℕ) → suc k < count es → comes_before es k (suc k) ≡ true

-- a graph of S states: every end is a state, the transitions ascend strictly, every state has a successor
pub record Graph (S : ℕ) (es : List ℕ) : Type 0 where
  pub ends : All (λ (t : ℕ). t < S) es
  pub ascending : Ascending es
  pub out : (s : ℕ) → s < S → Some (succs es s)

-- where the transitions out of s begin: how many stand before the first one from s or a later state
unfoldable pub first_out : List ℕ → ℕ → ℕ
first_out [] s = 0
first_out (f ∷ []) s = 0
first_out (f ∷ t ∷ es) s = cond (ltb f s) (suc (first_out es s)) 0

-- where n transitions from place k on lead to
unfoldable pub ends : List ℕ → ℕ → ℕ → List ℕ
ends es k zero = []
ends es k (suc n) = to es k ∷ ends es (suc k) n
