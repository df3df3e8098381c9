-- Rows: lists that a rule fills entry by entry.
use Rattle.std.specs.Prelude.{◌≡◌, ℕ, zero, suc, ◌+◌, ◌≤◌, List, [], ◌∷◌, ◌++◌, cond, length, take, drop, leb}

-- the row f 0, f 1, .., f (n - 1)
unfoldable pub tab : (ℕ → ℕ) → ℕ → List ℕ
tab f zero = []
tab f (suc n) = tab f n ++ (f n ∷ [])

-- a list afterwards, its first n entries now f 0 to f (n - 1) and the rest as before
abbrev pub Filled : (ℕ → ℕ) → ℕ → List ℕ → List ℕ → Type 0
Filled f n before now = now ≡ tab f n ++ drop n before

-- a space afterwards: its front filled with xs, the rest as before
abbrev pub fill : List ℕ → List ℕ → List ℕ
fill xs before = xs ++ drop (length xs) before

-- the same where it has room for them; a shorter space stays
abbrev pub fill_if : List ℕ → List ℕ → List ℕ
fill_if xs before = cond (leb (length xs) (length before)) (fill xs before) before

-- xs over what stood in a space from a place on
abbrev pub laid : ℕ → List ℕ → List ℕ → List ℕ
laid place xs before = take place before ++ xs ++ drop (place + length xs) before

-- bytes are laid over a space from a place in it on, up to an end
pub record Put (before after : List ℕ) (place end : ℕ) (bytes : List ℕ) : Type 0 where
  pub ends : end ≡ place + length bytes
  pub begins : place ≤ length before
  pub lays : after ≡ laid place bytes before

-- the lists of g t for each t of ts, one after the other
unfoldable pub each : (ℕ → List (List ℕ)) → List ℕ → List (List ℕ)
each g [] = []
each g (t ∷ ts) = g t ++ each g ts
