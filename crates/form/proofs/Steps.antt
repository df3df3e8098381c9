-- The readers of specs/ at a place of the text: one step of each, by the test that is made there.
use Prim.Native.Nat.{ℕ, suc, ◌+◌, ◌-◌, ◌*◌, ◌≤◌, ◌<◌}
use mathlib.Core.Path.{◌≡◌, refl, ap, sym}
use mathlib.Core.List.{List, [], ◌∷◌, ◌++◌, append_assoc}
use mathlib.Core.Bool.{true, false, ◌&&◌}
use native.Mathlib.Numerals.{add-one}
use native.Mathlib.Omega.{arith}
use lib.ListN.{length, drop, drop_of_length-le}
use lib.Seq.{drop-cons}
use lib.Dec.{ltb, leb}
use borrow.Author.Tests.{eq-eqb, ne_eqb, lt-ltb, le-ltb, ltb-true, leb-true}
use Rattle.lists.specs.Entries.{at}
use Rattle.lists.proofs.Tests.{and_parts}
use Rattle.values.specs.Signs.{digits}
use Rattle.form.specs.Readers.{Reading, Reader, on, valued, exactly, place_of, may_grow, number_from, number, symbol, symbols, end}
use Rattle.form.specs.Readers.Reading.{found, ends, refused}

pub here : (s : List ℕ) (i : ℕ) → i < length s → drop i s ≡ at s i ∷ drop (i + 1) s
here s i h = rw (add-one, drop-cons s i 0)

pub joined : (xs ys : List ℕ) (o : Reading (List ℕ)) → valued (λ zs. xs ++ zs) (valued (λ zs. ys ++ zs) o) ≡ valued (λ zs. (xs ++ ys) ++ zs) o
joined xs ys (found zs s) = ap (λ (l : List ℕ). found l s) (sym (append_assoc xs ys zs))
joined xs ys ends = refl
joined xs ys (refused n) = refl

module _ (bytes s : List ℕ) (j i : ℕ) (below : j < length bytes) where
  pub exactly_ends : length s ≤ i → exactly (drop j bytes) (drop i s) ≡ ends
  unfolding exactly
  exactly_ends h = rw (here bytes j below, drop_of_length-le s h)

  pub exactly_broken : i < length s → (at s i ≡ at bytes j → ⊥) → exactly (drop j bytes) (drop i s) ≡ refused 19
  unfolding exactly
  exactly_broken h e = rw (here bytes j below, here s i h) (simp (exactly, ne_eqb _ _ e))

  pub exactly_on : i < length s → at s i ≡ at bytes j → exactly (drop j bytes) (drop i s) ≡ exactly (drop (j + 1) bytes) (drop (i + 1) s)
  unfolding exactly
  exactly_on h e = rw (here bytes j below, here s i h) (simp (exactly, eq-eqb _ _ e))

pub exactly_done : (bytes s : List ℕ) (j i : ℕ) → length bytes ≤ j → exactly (drop j bytes) (drop i s) ≡ found tt (drop i s)
unfolding exactly
exactly_done bytes s j i h = rw (drop_of_length-le bytes h)

module _ (signs : List ℕ) (b i : ℕ) where
  pub place_here : i < length signs → at signs i ≡ b → place_of (drop i signs) b ≡ 0
  unfolding place_of
  place_here h e = rw (here signs i h) (simp (place_of, eq-eqb _ _ e))

  pub place_on : i < length signs → (at signs i ≡ b → ⊥) → place_of (drop i signs) b ≡ suc (place_of (drop (i + 1) signs) b)
  unfolding place_of
  place_on h e = rw (here signs i h) (simp (place_of, ne_eqb _ _ e))

  pub place_none : length signs ≤ i → place_of (drop i signs) b ≡ 0
  unfolding place_of
  place_none h = rw (drop_of_length-le signs h)

pub record Grows (n d : ℕ) : Type 0 where
  pub some : 0 < n
  pub digit : d < 10
  pub most : n * 10 + d ≤ 65535

pub grows : (n d : ℕ) → may_grow n d ≡ true → Grows n d
unfolding may_grow
grows n d e =
    let p = and_parts (ltb 0 n) (ltb d 10 && leb (n * 10 + d) 65535) e in
    let q = and_parts (ltb d 10) (leb (n * 10 + d) 65535) p.1 in
    record { some = ltb-true 0 n p.0; digit = ltb-true d 10 q.0; most = leb-true (n * 10 + d) 65535 q.1 }

module _ (stop n : ℕ) (s : List ℕ) (i : ℕ) where
  pub from_ends : length s ≤ i → number_from stop n (drop i s) ≡ ends
  unfolding number_from
  from_ends h = rw (drop_of_length-le s h)

  pub from_stop : i < length s → at s i ≡ stop → number_from stop n (drop i s) ≡ found n (drop (i + 1) s)
  unfolding number_from
  from_stop h e = rw (here s i h) (simp (number_from, eq-eqb _ _ e))

  pub from_broken : (d : ℕ) → i < length s → (at s i ≡ stop → ⊥) → d ≡ place_of digits (at s i) → may_grow n d ≡ false → number_from stop n (drop i s) ≡ refused 19
  unfolding number_from
  from_broken d h e p g = rw (here s i h) (simp (number_from, ne_eqb _ _ e, ← p, g))

  pub from_on : (d : ℕ) → i < length s → (at s i ≡ stop → ⊥) → d ≡ place_of digits (at s i) → may_grow n d ≡ true
      → number_from stop n (drop i s) ≡ number_from stop (n * 10 + d) (drop (i + 1) s)
  unfolding number_from
  from_on d h e p g = rw (here s i h) (simp (number_from, ne_eqb _ _ e, ← p, g))

module _ (stop : ℕ) (s : List ℕ) (i : ℕ) where
  pub number_ends : length s ≤ i → number stop (drop i s) ≡ ends
  unfolding number
  number_ends h = rw (drop_of_length-le s h)

  pub number_broken : (d : ℕ) → i < length s → d ≡ place_of digits (at s i) → 10 ≤ d → number stop (drop i s) ≡ refused 19
  unfolding number
  number_broken d h p g = rw (here s i h) (simp (number, ← p, le-ltb _ _ g))

  pub number_on : (d : ℕ) → i < length s → d ≡ place_of digits (at s i) → d < 10 → number stop (drop i s) ≡ number_from stop d (drop (i + 1) s)
  unfolding number
  number_on d h p g = rw (here s i h) (simp (number, ← p, lt-ltb _ _ g))

module _ (signs : List ℕ) (n j : ℕ) (s : List ℕ) (i : ℕ) where
  pub symbols_ends : j < n → length s ≤ i → symbols signs (n - j) (drop i s) ≡ ends
  unfolding symbols symbol
  symbols_ends b h =
      let e : n - j ≡ suc (n - (j + 1)) = omega arith in
      rw (e, drop_of_length-le s h)

  pub symbols_broken : (v : ℕ) → j < n → i < length s → v ≡ place_of signs (at s i) → length signs ≤ v → symbols signs (n - j) (drop i s) ≡ refused 19
  unfolding symbols symbol
  symbols_broken v b h p g =
      let e : n - j ≡ suc (n - (j + 1)) = omega arith in
      rw (e, here s i h) (simp (symbols, symbol, ← p, le-ltb _ _ g))

  pub symbols_on : (v : ℕ) → j < n → i < length s → v ≡ place_of signs (at s i) → v < length signs
      → symbols signs (n - j) (drop i s) ≡ valued (λ vs. v ∷ vs) (symbols signs (n - (j + 1)) (drop (i + 1) s))
  unfolding symbols symbol
  symbols_on v b h p g =
      let e : n - j ≡ suc (n - (j + 1)) = omega arith in
      rw (e, here s i h) (simp (symbols, symbol, ← p, lt-ltb _ _ g))

  pub symbols_done : n ≤ j → symbols signs (n - j) (drop i s) ≡ found [] (drop i s)
  unfolding symbols
  symbols_done h =
      let e : n - j ≡ 0 = omega arith in
      rw e

pub end_done : {A : Type 0} (k : Unit {0} → Reader A) (s : List ℕ) (i : ℕ) → length s ≤ i → on (end (drop i s)) k ≡ k tt (drop i s)
unfolding end
end_done k s i h = rw (drop_of_length-le s h)

pub end_broken : {A : Type 0} (k : Unit {0} → Reader A) (s : List ℕ) (i : ℕ) → i < length s → on (end (drop i s)) k ≡ refused 19
unfolding end
end_broken k s i h = rw (here s i h)

-- the steps of a reader, for a search
pub ruleset exactly_steps = (exactly_ends, exactly_broken, exactly_on, exactly_done)

pub ruleset number_steps = (from_ends, from_stop, from_broken, from_on, number_ends, number_broken, number_on, grows)
