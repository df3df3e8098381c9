-- Readers of a text. Each takes the bytes that are left and finds a value with what is left then, or that the text ends where it could go
-- on, or the number of a refusal. A break of the form is refusal 19.
use Rattle.std.specs.Prelude.{ℕ, zero, suc, ◌+◌, ◌*◌, List, [], ◌∷◌, ◌++◌, Bool, cond, ◌&&◌, length, ltb, leb, eqb}
use Rattle.values.specs.Signs.{digits, line_feed, stop_before}

-- what reading comes to
pub data Reading (A : Type 0) : Type 0 where
  found : A → List ℕ → Reading A
  ends : Reading A
  refused : ℕ → Reading A

-- by the text that is left
abbrev pub Reader : Type 0 → Type 0
Reader A = List ℕ → Reading A

-- what comes next, by the value that was found
abbrev pub on : {A B : Type 0} → Reading A → (A → Reader B) → Reading B
on (found a s) k = k a s
on ends k = ends
on (refused n) k = refused n

-- one reader and then the next
abbrev pub ◌>>=◌ : {A B : Type 0} → Reader A → (A → Reader B) → Reader B
◌>>=◌ p k = λ s. on (p s) k

-- nothing is read, and the value is this
abbrev pub give : {A : Type 0} → A → Reader A
give a s = found a s

-- a reading with another value, made of its own
abbrev pub valued : {A B : Type 0} → (A → B) → Reading A → Reading B
valued f o = on o (λ a. give (f a))

-- exactly these bytes
unfoldable pub exactly : List ℕ → Reader (Unit {0})
exactly [] s = found tt s
exactly (k ∷ ks) [] = ends
exactly (k ∷ ks) (c ∷ s) = cond (eqb c k) (exactly ks s) (refused 19)

-- the place of a byte among some signs, counted from 0; how many they are where it is none of them
unfoldable pub place_of : List ℕ → ℕ → ℕ
place_of [] c = 0
place_of (g ∷ gs) c = cond (eqb g c) 0 (suc (place_of gs c))

-- a number may go on with a digit d: it has no leading zero, and stays up to 65,535
unfoldable pub may_grow : ℕ → ℕ → Bool
may_grow n d = ltb 0 n && (ltb d 10 && leb (n * 10 + d) 65535)

-- the rest of a number whose digits so far say n, up to the byte stop
unfoldable pub number_from : ℕ → ℕ → Reader ℕ
number_from stop n [] = ends
number_from stop n (c ∷ s) =
    cond (eqb c stop) (found n s) (cond (may_grow n (place_of digits c)) (number_from stop (n * 10 + place_of digits c) s) (refused 19))

-- a decimal number up to 65,535, no leading zeros, and the byte stop after it
unfoldable pub number : ℕ → Reader ℕ
number stop [] = ends
number stop (c ∷ s) = cond (ltb (place_of digits c) 10) (number_from stop (place_of digits c) s) (refused 19)

-- one of the signs, for its place among them
unfoldable pub symbol : List ℕ → Reader ℕ
symbol signs [] = ends
symbol signs (c ∷ s) = cond (ltb (place_of signs c) (length signs)) (found (place_of signs c) s) (refused 19)

-- n of them
unfoldable pub symbols : List ℕ → ℕ → Reader (List ℕ)
symbols signs zero = give []
symbols signs (suc n) = do
  v ← symbol signs
  vs ← symbols signs n
  give (v ∷ vs)

-- w numbers, up to the line's end
unfoldable pub numbers : ℕ → Reader (List ℕ)
numbers zero = give []
numbers (suc w) = do
  n ← number (stop_before w)
  ns ← numbers w
  give (n ∷ ns)

-- a count in its range; else the refusal
unfoldable pub within : ℕ → ℕ → ℕ → ℕ → Reader ℕ
within least most refusal n s = cond (leb least n && leb n most) (found n s) (refused refusal)

-- a line key=count: its form, the line feed too, is judged before its count
unfoldable pub count_line : List ℕ → ℕ → ℕ → ℕ → Reader ℕ
count_line k least most refusal = do
  _ ← exactly k
  n ← number line_feed
  within least most refusal n

-- a line key=symbols
unfoldable pub row_line : List ℕ → List ℕ → ℕ → Reader (List ℕ)
row_line k signs n = do
  _ ← exactly k
  vs ← symbols signs n
  _ ← exactly (line_feed ∷ [])
  give vs

-- a line of w numbers, key=a,b or key=a,b,c
unfoldable pub numbers_line : List ℕ → ℕ → Reader (List ℕ)
numbers_line k w = do
  _ ← exactly k
  numbers w

-- n lines of one sort, for what they hold, one after the other
unfoldable pub lines : Reader (List ℕ) → ℕ → Reader (List ℕ)
lines line zero = give []
lines line (suc n) = do
  vs ← line
  ws ← lines line n
  give (vs ++ ws)

-- nothing after the last line
unfoldable pub end : Reader (Unit {0})
end [] = found tt []
end (c ∷ s) = refused 19
