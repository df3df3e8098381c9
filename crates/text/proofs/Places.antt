-- What the library's calls leave and find: a part of a table that is copied into, and the place of a sign.
use Prim.Native.Nat.{ℕ, zero, suc, ◌+◌, ◌-◌, ◌≤◌, ◌<◌}
use mathlib.Core.Path.{◌≡◌, ap, sym, ◌∙◌}
use mathlib.Core.List.{List, ◌++◌, append_assoc}
use native.Mathlib.Numerals.{add-one}
use native.Mathlib.Omega.{arith}
use lib.ListN.{length, take, drop}
use lib.Seq.{drop-drop}
use borrow.Rule.Slice.PartMut.{put_mid}
use Rattle.std.specs.Prelude.{Option, Some, None, MatchOption}
use Rattle.std.specs.List.{AllWithin, HoldsAt}
use Rattle.std.specs.Option.{unwrap_or}
use Rattle.lists.specs.Entries.{at}
use Rattle.lists.specs.Rows.{laid}
use Rattle.form.specs.Readers.{place_of}
use Rattle.form.proofs.Steps.{place_here, place_on, place_none}

-- src, copied into a part of a table that is as long
pub copied : (place n : ℕ) (src before part : List ℕ) → n ≡ length src → part ≡ src → put_mid place (place + n - place) before part ≡ laid place src before
copied place n src before part f e =
    let k : place + n - place ≡ length src = omega arith in
    rw e
    (ap (λ (l : List ℕ). take place before ++ (src ++ l)) (drop-drop (place + n - place) place before ∙ ap (λ (m : ℕ). drop (place + m) before) k)
    ∙ sym (append_assoc (take place before) src (drop (place + length src) before)))

-- the byte is no sign before a place: its place is how many were passed and its place among the rest
passed : (signs : List ℕ) (b i : ℕ) → i ≤ length signs → ((k : ℕ) → k < i → at signs k ≡ b → ⊥) → place_of signs b ≡ i + place_of (drop i signs) b
passed signs b zero h f = omega arith
passed signs b (suc i) h f =
    let p = rw add-one at (place_on signs b i (omega arith) (f i (omega arith))) in
    omega (arith, passed signs b i (omega arith) (λ k q. f k (omega arith)), p)

-- the first place of a byte, or none
pub place_found : (signs : List ℕ) (b : ℕ) (r : Option ℕ)
    → MatchOption r (AllWithin (λ g. g ≡ b → ⊥) signs 0 (length signs)) (λ i. (i < length signs) × HoldsAt (λ g. g ≡ b) signs i × AllWithin (λ g. g ≡ b → ⊥) signs 0 i)
    → unwrap_or r (length signs) ≡ place_of signs b
place_found signs b None p = omega (arith, passed signs b (length signs) (omega arith) (λ k q. p k 0 (omega arith) q), place_none signs b (length signs) (omega arith))
place_found signs b (Some i) p = omega (arith, passed signs b i (omega (arith, p.0)) (λ k q. p.2 k 0 (omega arith) q), place_here signs b i p.0 (p.1 0))
