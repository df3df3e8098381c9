-- Laws of `Put`: nothing, one byte, one behind the other, a loop that fills by a rule, and what stands at the front in the end.
use Prim.Native.Nat.{ℕ, suc, ◌+◌, ◌≤◌, ◌<◌}
use mathlib.Core.Path.{◌≡◌, refl, ap, sym, ◌∙◌}
use mathlib.Core.List.{List, [], ◌∷◌, ◌++◌, append_assoc, append-nil}
use native.Mathlib.Numerals.{add-one}
use native.Mathlib.Nat.{add-zero, zero-add}
use native.Mathlib.Omega.{arith}
use lib.ListN.{length, take, drop, set, length-append, take-append-drop}
use lib.Seq.{set_split, append_snoc, length-take-le, take_at, drop_at, drop-drop}
use Rattle.lists.specs.Rows.{fill, tab, Put}

pub put_none : (l : List ℕ) (place : ℕ) → place ≤ length l → Put l l place place []
put_none l place h = record { ends = sym (add-zero place); begins = h; lays = sym (take-append-drop place l) ∙ rw (append-nil, add-zero) }

pub put_one : (l : List ℕ) (place v : ℕ) → place < length l → Put l (set l place v) place (place + 1) (v ∷ [])
put_one l place v h = record {
  ends = refl;
  begins = omega arith;
  lays = set_split l place v h ∙ sym (append_snoc (take place l) v (drop (suc place) l)) ∙ rw (add-one place);
}

pub put_then : {a b d : List ℕ} {i j k : ℕ} {xs ys : List ℕ} → Put a b i j xs → Put b d j k ys → Put a d i k (xs ++ ys)
put_then {a} {b} {d} {i} {j} {k} {xs} {ys} p q =
    let front = take i a ++ xs in
    let long : length front ≡ j = length-append (take i a) xs ∙ omega (arith, p.ends, length-take-le i a p.begins) in
    let now : b ≡ front ++ drop j a = p.lays ∙ rw (← p.ends) in
    let seen : take j b ≡ front = ap (take j) now ∙ take_at front (drop j a) j long in
    let rest : drop j b ≡ drop j a = ap (drop j) now ∙ drop_at front (drop j a) j long in
    let behind : drop (j + length ys) b ≡ drop (j + length ys) a = sym (drop-drop (length ys) j b) ∙ ap (drop (length ys)) rest ∙ drop-drop (length ys) j a in
    let ends : k ≡ i + length (xs ++ ys) = omega (arith, p.ends, q.ends, length-append xs ys) in
    record {
      ends = ends;
      begins = p.begins;
      lays = q.lays ∙ rw (seen, behind, ← append_assoc, ← q.ends, ← ends);
    }

-- a loop that puts f 0, f 1, ..: one entry more
pub put_more : (f : ℕ → ℕ) (l now : List ℕ) (place i v : ℕ) → Put l now place (place + i) (tab f i) → place + i < length now → v ≡ f i
    → Put l (set now (place + i) v) place (place + (i + 1)) (tab f (i + 1))
unfolding tab
put_more f l now place i v p h e =
    let s : place + (i + 1) ≡ place + i + 1 = omega arith in
    rw (s, add-one i, ← e) (put_then p (put_one now (place + i) v h))

pub put_first : (f : ℕ → ℕ) (l : List ℕ) (place : ℕ) → place ≤ length l → Put l l place (place + 0) (tab f 0)
unfolding tab
put_first f l place h = rw (add-zero place) (put_none l place h)

-- and the last
pub put_all : (f : ℕ → ℕ) (l now : List ℕ) (place i n : ℕ) → Put l now place (place + i) (tab f i) → i ≡ n → Put l now place (place + n) (tab f n)
put_all f l now place i n p e = rw e at p

-- put from the front on, it fills the front
pub put_front : {before after : List ℕ} {end : ℕ} {bytes : List ℕ} → Put before after 0 end bytes → after ≡ fill bytes before
put_front {before} {bytes = bytes} p = p.lays ∙ rw zero-add
