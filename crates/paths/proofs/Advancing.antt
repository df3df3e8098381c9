-- On to the next larger list: places from the last on back that have no larger state, and the place that has one.
use mathlib.Core.Path.{◌≡◌, sym, ap, ◌∙◌, refl}
use Prim.Native.Nat.{ℕ, zero, suc, ◌+◌, ◌-◌, ◌≤◌, ◌<◌}
use mathlib.Core.List.{List, [], ◌∷◌, ◌++◌, append-nil}
use mathlib.Core.Bool.{true, false, true≢false}
use mathlib.Core.Logic.{inl, inr, ⊎_elim}
use native.Mathlib.Omega.{arith}
use native.Mathlib.Numerals.{add-one}
use borrow.Rule.Slice.PartMut.{put_mid}
use lib.ListN.{length, drop, take, length-drop, length-take, drop_of_length-le, get_or-append}
use lib.Seq.{get_or-take, drop_at, length-take-le}
use Rattle.std.specs.Prelude.{Option, Some, None}
use Rattle.lists.specs.Entries.{at}
use Rattle.lists.proofs.Numbers.{lt_or_le}
use Rattle.paths.specs.Inside.{Advanced, Below, Descended, Down, Greatest, Layers, Onto}
use Rattle.paths.proofs.Fits.{Picked, pick_least, pick_none}
use Rattle.paths.proofs.Places.{at_drop}

module _ (es : List ℕ) (d : ℕ → ℕ) where
  pub down_length : (s : ℕ) (p : List ℕ) → Down es d s p → d s ≡ length p + 1
  down_length s [] h = omega arith
  down_length s (t ∷ p) h = omega (arith, down_length t p h.1, h.0.1)

  -- the way down from a place on, one step of it, and its distance
  down_open : (p : List ℕ) (i : ℕ) → i + 1 < length p → Down es d (at p i) (drop (i + 1) p) → Below es d (at p i) (at p (i + 1)) × Down es d (at p (i + 1)) (drop (i + 1 + 1) p)
  down_open p i h w = rw (at_drop p (i + 1) h) at w

  down_place : (p : List ℕ) (i : ℕ) → i < length p → Down es d (at p 0) (drop 1 p) → Down es d (at p i) (drop (i + 1) p)
  down_place p zero h w = w
  down_place p (suc i) h w = rw (← add-one i) (down_open p i (omega arith) (down_place p i (omega arith) w)).1

  down_step : (p : List ℕ) (i : ℕ) → i + 1 < length p → Down es d (at p 0) (drop 1 p) → Below es d (at p i) (at p (i + 1))
  down_step p i h w = (down_open p i h (down_place p i (omega arith) w)).0

  down_distance : (p : List ℕ) (i : ℕ) → i < length p → Down es d (at p 0) (drop 1 p) → d (at p i) + i ≡ length p
  down_distance p i h w = omega (arith, down_length (at p i) (drop (i + 1) p) (down_place p i h w), length-drop (i + 1) p)

  -- two lists that agree up to a place, and part after it
  onto_from : (p r : List ℕ) (k : ℕ) → k < length p → k < length r → ((j : ℕ) → j ≤ k → at p j ≡ at r j) → Onto es d (at p k) (drop (k + 1) p) (drop (k + 1) r) → Onto es d (at p 0) (drop 1 p) (drop 1 r)
  onto_from p r zero a b same o = o
  onto_from p r (suc k) a b same o =
      let o' : Onto es d (at p (k + 1)) (drop (k + 1 + 1) p) (drop (k + 1 + 1) r) = rw (add-one k) o in
      onto_from p r k (omega arith) (omega arith) (λ j h. same j (omega arith))
      (rw (at_drop p (k + 1) (omega arith), at_drop r (k + 1) (omega arith)) (inl (same (k + 1) (omega arith), o')))

-- from place i on there is no larger state
pub record Advancing (es : List ℕ) (d : ℕ → ℕ) (p₀ p : List ℕ) (i : ℕ) : Type 0 where
  pub same : p ≡ p₀
  pub size : length p ≡ length p₀
  pub here : i < length p
  pub top : Greatest es d (at p i) (drop (i + 1) p)

pub advancing_start : {es : List ℕ} {d : ℕ → ℕ} {p : List ℕ} {i : ℕ} → i + 1 ≡ length p → Advancing es d p p i
advancing_start {es} {d} {p} {i} h = record { same = refl; size = refl; here = omega arith; top = rw (drop_of_length-le p {i = i + 1} (omega arith)) tt }

-- a place and its distance
pub advancing_in : {S : ℕ} {es d p₀ p : List ℕ} {i : ℕ} → Layers S es d → Advancing es (at d) p₀ p i → Down es (at d) (at p₀ 0) (drop 1 p₀) → (j : ℕ) → j ≤ i → (at p j < S) × (at d (at p j) + j ≡ length p)
advancing_in {S} {es} {d} {p₀} {p} {i} l x w j h =
    let here = x.here in
    let w' : Down es (at d) (at p 0) (drop 1 p) = rw x.same w in
    let y = down_distance es (at d) p j (omega arith) w' in
    (l.inside (at p j) (omega arith), y)

-- the place j before i: the step that leads to i, what is picked beyond it, and that nothing behind it is larger
record Stepped (es d p : List ℕ) (j want : ℕ) (r : Option ℕ) : Type 0 where
  pub step : Below es (at d) (at p j) (at p (j + 1))
  pub pick : Picked es d (at p j) want (at p (j + 1) + 1) r
  pub distance : at d (at p (j + 1)) ≡ want
  pub top : Greatest es (at d) (at p (j + 1)) (drop (j + 1 + 1) p)

stepped : {es d p₀ p : List ℕ} {i want : ℕ} {r : Option ℕ} (j : ℕ) → Advancing es (at d) p₀ p i → i ≡ j + 1 → Down es (at d) (at p₀ 0) (drop 1 p₀) → Picked es d (at p j) want (at p i + 1) r → at d (at p i) ≡ want → Stepped es d p j want r
stepped {es} {d} {p₀} {p} {i} {want} {r} j x e w k q =
    let here = x.here in
    record { step = down_step es (at d) p j (omega arith) (rw x.same w); pick = rw e at k; distance = rw e at q; top = rw e at x.top }

-- no larger state at this place either
pub advancing_step : {es d p₀ p : List ℕ} {i want : ℕ} {r : Option ℕ} (j : ℕ) → Advancing es (at d) p₀ p i → i ≡ j + 1 → Down es (at d) (at p₀ 0) (drop 1 p₀) → Picked es d (at p j) want (at p i + 1) r → at d (at p i) ≡ want → r ≡ None → Advancing es (at d) p₀ p j
advancing_step {es} {d} {p₀} {p} {i} {want} {r} j x e w k q h =
    let here = x.here in
    let y = stepped j x e w k q in
    record {
      same = x.same;
      size = x.size;
      here = omega arith;
      top = rw (at_drop p (j + 1) (omega arith)) (
        λ v b.
            ⊎_elim
            (λ (l : at p (j + 1) < v). absurd (pick_none y.pick h v b.0 (omega (arith, b.1, y.step.1, y.distance)) (omega arith)))
            (λ (l : v ≤ at p (j + 1)). l)
            (lt_or_le (at p (j + 1)) v),
        y.top,
      );
    }

pub advancing_end : {es : List ℕ} {d : ℕ → ℕ} {p₀ p : List ℕ} {i : ℕ} → Advancing es d p₀ p i → i ≤ 0 → Advanced es d p₀ p false
advancing_end {es} {d} {p₀} {p} {i} x h =
    let z : i ≡ 0 = omega arith in
    let top : Greatest es d (at p 0) (drop (0 + 1) p) = rw z at x.top in
    record {
      size = x.size;
      start = ap (λ (l : List ℕ). at l 0) x.same;
      onto = λ f. absurd (true≢false (sym f));
      top = λ f. (x.same, rw (← x.same) top);
    }

-- a larger state, and from there the smallest each time
pub advancing_found : {es d p₀ p part after : List ℕ} {i u want : ℕ} {r : Option ℕ} (j : ℕ) → Advancing es (at d) p₀ p i → i ≡ j + 1 → Down es (at d) (at p₀ 0) (drop 1 p₀) → Picked es d (at p j) want (at p i + 1) r → at d (at p i) ≡ want → r ≡ Some u
    → Descended es (at d) u part → length after ≡ length p → after ≡ take i p ++ part → Advanced es (at d) p₀ after true
advancing_found {es} {d} {p₀} {p} {part} {after} {i} {u} {want} {r} j x e w k q h f long is =
    let here = x.here in
    let front : length (take i p) ≡ i = length-take-le i p (omega arith) in
    let agree : (m : ℕ) → m ≤ j → at p m ≡ at after m = λ m l. rw (is, get_or-append (take i p) part 0 m (omega arith), get_or-take i p m 0 (omega arith)) in
    let y = stepped j x e w k q in
    let one = y.pick.is_one u h in
    let rest : drop (j + 1) after ≡ u ∷ f.tail = rw (← e, is) (drop_at (take i p) part i front ∙ f.is) in
    record {
      size = long ∙ x.size;
      start = sym (agree 0 (omega arith)) ∙ ap (λ (l : List ℕ). at l 0) x.same;
      onto = λ z. rw (← x.same)
          (onto_from es (at d) p after j (omega arith) (omega arith) agree
          (rw (at_drop p (j + 1) (omega arith), rest)
          (inr (y.top, (one.0, omega (arith, one.1, y.step.1, y.distance)), omega (arith, one.2), λ v b l. pick_least y.pick h v b.0 (omega (arith, b.1, y.step.1, y.distance)) (omega arith), f.greedy))));
      top = λ z. absurd (true≢false z);
    }

-- a part from i to the end: its length, and the list once it is back
pub rest_length : (i : ℕ) (p : List ℕ) → length (take (length p - i) (drop i p)) ≡ length p - i
rest_length i p = simp (length-take, length-drop) (omega arith)

pub put_rest : (i : ℕ) (p part : List ℕ) → put_mid i (length p - i) p part ≡ take i p ++ part
put_rest i p part =
    let left = length-drop i p in
    let e : drop (length p - i) (drop i p) ≡ [] = drop_of_length-le (drop i p) {i = length p - i} (omega arith) in
    ap (λ (z : List ℕ). take i p ++ (part ++ z)) e ∙ ap (λ (z : List ℕ). take i p ++ z) (append-nil part)
