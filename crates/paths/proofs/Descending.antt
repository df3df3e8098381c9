-- Down the distances by the smallest next state: one step, a list filled from the front, and the filled list.
use mathlib.Core.Path.{◌≡◌, refl, ap, ◌∙◌}
use Prim.Native.Nat.{ℕ, zero, suc, ◌+◌, ◌-◌, ◌≤◌, ◌<◌}
use mathlib.Core.List.{List}
use native.Mathlib.Omega.{arith}
use borrow.Author.Count.{below_more}
use lib.ListN.{length, set, drop, length-set, drop_of_length-le}
use lib.Seq.{get_or-set_same, get_or-set_other}
use Rattle.std.specs.Prelude.{Option, Some}
use Rattle.std.specs.Option.{IsSome}
use Rattle.lists.specs.Entries.{at}
use Rattle.kripke.specs.Transitions.{Graph, succs}
use Rattle.paths.specs.Inside.{Below, Descended, Greedy, Layers, first_fit}
use Rattle.paths.proofs.Fits.{Picked, pick_least, picked}
use Rattle.paths.proofs.Places.{at_drop, whole}

-- t is the smallest state below s
pub record Lowest (es : List ℕ) (d : ℕ → ℕ) (s t : ℕ) : Type 0 where
  pub below : Below es d s t
  pub least : (u : ℕ) → Below es d s u → t ≤ u

-- at the distance below there is one to pick, and it is the lowest
pub lowest_there : {S : ℕ} {es d : List ℕ} {r : Option ℕ} (s want : ℕ) → Layers S es d → r ≡ first_fit d want 0 (succs es s) → at d s ≡ want + 1 → 0 < want → IsSome r
lowest_there {d = d} s want l is e h = let wanted : at d s - 1 ≡ want = omega arith in rw (is, ← wanted) (l.next s (omega arith))

pub picked_lowest : {S : ℕ} {es : List ℕ} {s t : ℕ} {r : Option ℕ} (d : List ℕ) (want : ℕ) → Graph S es → r ≡ first_fit d want 0 (succs es s) → r ≡ Some t → at d s ≡ want + 1 → Lowest es (at d) s t
picked_lowest {S} {es} {s} {t} {r} d want G is some e =
    let p : Picked es d s want 0 r = picked G is in
    let o = p.is_one t some in
    record { below = (o.0, omega (arith, o.1)); least = λ u b. pick_least p some u b.0 (omega (arith, b.1)) (omega arith) }

-- i places of n are filled from u on, s being the last of them
pub record Filling (es d : List ℕ) (u n : ℕ) (p : List ℕ) (s i : ℕ) : Type 0 where
  pub size : length p ≡ n
  pub some : 0 < i
  pub here : i ≤ n
  pub head : at p 0 ≡ u
  pub last : at p (i - 1) ≡ s
  pub layer : at d s + i ≡ n + 1
  pub low : (j : ℕ) → j < i - 1 → Lowest es (at d) (at p j) (at p (j + 1))

pub filling_start : {es d : List ℕ} (p : List ℕ) {u : ℕ} → 0 < length p → at d u ≡ length p → Filling es d u (length (set p 0 u)) (set p 0 u) u 1
filling_start {es} {d} p {u} h e =
    let size = length-set p 0 u in
    let first = get_or-set_same p 0 u 0 h in
    record { size = refl; some = omega arith; here = omega arith; head = first; last = first; layer = omega arith; low = λ j l. absurd (omega arith) }

pub filling_step : {es d p : List ℕ} {u n s i t : ℕ} → Filling es d u n p s i → i < n → Lowest es (at d) s t → Filling es d u n (set p i t) t (i + 1)
filling_step {es} {d} {p} {u} {n} {s} {i} {t} x h l =
    let size = length-set p i t in
    let long : length p ≡ n = x.size in
    let pos : 0 < i = x.some in
    let now : at (set p i t) i ≡ t = get_or-set_same p i t 0 (omega arith) in
    let back : i + 1 - 1 ≡ i = omega arith in
    let before : i - 1 + 1 ≡ i = omega arith in
    record {
      size = omega arith;
      some = omega arith;
      here = omega arith;
      head = get_or-set_other p i 0 t 0 (omega arith) ∙ x.head;
      last = ap (at (set p i t)) back ∙ now;
      layer = omega (arith, l.below.1, x.layer);
      low = rw (back, ← before) (below_more (λ (j : ℕ). Lowest es (at d) (at (set p (i - 1 + 1) t) j) (at (set p (i - 1 + 1) t) (j + 1))) (i - 1)
          (λ j k. rw (before, get_or-set_other p i j t 0 (omega arith), get_or-set_other p i (j + 1) t 0 (omega arith)) (x.low j k))
          (rw (before, get_or-set_other p i (i - 1) t 0 (omega arith), x.last, now) l));
    }

-- where a filling stands: a state, and one more below it
pub filling_in : {S : ℕ} {es d p : List ℕ} {u n s i : ℕ} → Layers S es d → Filling es d u n p s i → i < n → (s < S) × (at d s ≡ n - i + 1) × (0 < n - i) × (n - i ≤ S)
filling_in {S} {es} {d} {p} {u} {n} {s} {i} l x h =
    let y = x.layer in
    (l.inside s (omega arith), omega arith, omega arith, omega (arith, l.few s))

greedy_places : (es d p : List ℕ) (m i : ℕ) → i + m + 1 ≡ length p → ((j : ℕ) → j < i + m → Lowest es (at d) (at p j) (at p (j + 1))) → at d (at p (i + m)) ≡ 1 → Greedy es (at d) (at p i) (drop (i + 1) p)
greedy_places es d p zero i e low h =
    let z : i + 0 ≡ i = omega arith in
    rw (drop_of_length-le p {i = i + 1} (omega arith)) (rw z at h)
greedy_places es d p (suc m) i e low h =
    let z : i + suc m ≡ i + 1 + m = omega arith in
    let l = low i (omega arith) in
    rw (at_drop p (i + 1) (omega arith)) (l.below, l.least, greedy_places es d p m (i + 1) (omega arith) (λ j k. low j (omega arith)) (rw z at h))

pub filling_end : {es d p : List ℕ} {u n s i : ℕ} → Filling es d u n p s i → n ≤ i → Descended es (at d) u p
filling_end {es} {d} {p} {u} {n} {s} {i} x h =
    let a = x.here in
    let b = x.some in
    let c = x.size in
    let z : 0 + (i - 1) ≡ i - 1 = omega arith in
    let one : at d (at p (0 + (i - 1))) ≡ 1 = rw (z, x.last) (omega (arith, x.layer)) in
    record {
      tail = drop 1 p;
      is = rw (← x.head) (whole p (omega arith));
      greedy = rw (← x.head) (greedy_places es d p (i - 1) 0 (omega arith) (λ j k. x.low j (omega arith)) one);
    }
