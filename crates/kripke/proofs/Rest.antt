-- Walks of more states than there are change nothing. At each level the states that reach it grow in number with every round until
-- a round adds none, and they are at most S; two values that reach the same levels are equal.
use mathlib.Core.Path.{◌≡◌, refl, sym, ap, ◌∙◌, subst}
use Prim.Native.Nat.{ℕ, zero, suc, ◌+◌, ◌-◌, ◌≤◌, ◌<◌, min, max}
use mathlib.Core.List.{List, map, map-map}
use mathlib.Core.Bool.{Bool, true, false}
use mathlib.Core.Logic.{◌⊎◌, inl, inr, ⊎_elim}
use native.Mathlib.Omega.{arith}
use native.Mathlib.Nat.{eq-or-lt_of_le, eq-zero-or-pos, le_antisymm}
use Rattle.kripke.specs.Transitions.{Graph, succs}
use Rattle.kripke.specs.Until.{step, until}
use Rattle.values.specs.Values.{choose}
use Rattle.lists.specs.Choosing.{best}
use Rattle.lists.specs.Entries.{at}
use Rattle.kripke.proofs.Rounds.{Rests, rests_after, rests_on}
use Rattle.kripke.proofs.Steps.{until_one, until_step}
use Rattle.kripke.proofs.Successors.{succs_states}
use Rattle.lists.proofs.Choosing.{best_map, best_related}
use Rattle.lists.proofs.Entries.{all_weaken, some_map}
use Rattle.lists.proofs.Numbers.{never_falls}
use Rattle.lists.proofs.Sums.{sum, sum_const, sum_le, sum_same}

-- 1 where a value is above w, and otherwise 0
abbrev above : ℕ → ℕ → ℕ
above w x = min 1 (x - w)

above_choose : (all : Bool) (w a b : ℕ) → above w (choose all a b) ≡ choose all (above w a) (above w b)
above_choose all w a b = ap (min 1) (by_sub all) ∙ by_min all (a - w) (b - w)
  where
    by_sub : (all : Bool) → choose all a b - w ≡ choose all (a - w) (b - w)
    by_sub false = omega arith
    by_sub true = omega arith

    by_min : (all : Bool) (x y : ℕ) → min 1 (choose all x y) ≡ choose all (min 1 x) (min 1 y)
    by_min false x y = omega arith
    by_min true x y = omega arith

above_step : (w l r v : ℕ) → above w (step l r v) ≡ step (above w l) (above w r) (above w v)
above_step w l r v = above_choose false w r (min l v) ∙ ap (max (above w r)) (above_choose true w l v)

same_levels : (x y : ℕ) → ((w : ℕ) → above w x ≡ above w y) → x ≡ y
same_levels x y h = le_antisymm (no_higher x y (h y)) (no_higher y x (sym (h x)))
  where
    no_higher : (a b : ℕ) → above b a ≡ above b b → a ≤ b
    no_higher a b e = omega arith

pub choose_mono : (all : Bool) (a b x y : ℕ) → a ≤ b → x ≤ y → choose all a x ≤ choose all b y
choose_mono false a b x y h k = omega arith
choose_mono true a b x y h k = omega arith

pub step_mono : (l r a b : ℕ) → a ≤ b → step l r a ≤ step l r b
step_mono l r a b h = omega arith

module _ (all : Bool) (S : ℕ) (es : List ℕ) (G : Graph S es) (L R : List ℕ) where
  -- over walks of n + 1 states
  abbrev W : ℕ → ℕ → ℕ
  W n s = until all es L R (suc n) s

  abbrev made : ℕ → List ℕ → ℕ
  made s vs = step (at L s) (at R s) (best (choose all) vs)

  pub climbs : (n s : ℕ) → s < S → W n s ≤ W (suc n) s
  climbs zero s h = rw (until_one all es L R s, until_step all S es G L R 0 s h) (omega arith)
  climbs (suc n) s h =
      rw (until_step all S es G L R n s h, until_step all S es G L R (suc n) s h)
      (step_mono (at L s) (at R s) _ _
      (best_related (choose all) (W n) (W (suc n)) (λ (a b : ℕ). a ≤ b) (omega arith) (choose_mono all) (succs es s)
      (all_weaken (λ (t : ℕ). t < S) (λ (t : ℕ). W n t ≤ W (suc n) t) (climbs n) (succs es s) (succs_states S es G s))))

  module _ (w : ℕ) where
    -- who is above w, by rounds
    abbrev C : ℕ → ℕ → ℕ
    C n s = above w (W n s)

    abbrev made_above : ℕ → List ℕ → ℕ
    made_above s vs = step (above w (at L s)) (above w (at R s)) (best (choose all) vs)

    rounds_above : (n s : ℕ) → s < S → C (suc n) s ≡ made_above s (map (C n) (succs es s))
    rounds_above n s h =
        ap (above w) (until_step all S es G L R n s h)
        ∙ above_step w (at L s) (at R s) (best (choose all) (map (W n) (succs es s)))
        ∙ ap (step (above w (at L s)) (above w (at R s))) (sym (best_map (choose all) (choose all) (above w) (above_choose all w) (map (W n) (succs es s)) (some_map (W n) (succs es s) (G.out s h))) ∙ ap (best (choose all)) (map-map (above w) (W n) (succs es s)))

    climbs_above : (n s : ℕ) → s < S → C n s ≤ C (suc n) s
    climbs_above n s h = higher (W n s) (W (suc n) s) (climbs n s h)
      where
        higher : (a b : ℕ) → a ≤ b → above w a ≤ above w b
        higher a b l = omega arith

    abbrev Still : ℕ → Type 0
    Still n = Rests S es G C made_above rounds_above n

    -- with nobody above w at first, nobody ever is
    nobody : ((s : ℕ) → s < S → C 0 s ≡ 0) → Still 0
    nobody z s h =
        let best_zero : best (choose all) (map (C 0) (succs es s)) ≤ 0 = best_related (choose all) (C 0) (λ (t : ℕ). 0) (λ (a b : ℕ). a ≤ 0) (omega arith) (λ a b x y p q. keeps all a x p q) (succs es s) (all_weaken (λ (t : ℕ). t < S) (λ (t : ℕ). C 0 t ≤ 0) (λ t l. omega (arith, z t l)) (succs es s) (succs_states S es G s)) in
        let right_zero : above w (at R s) ≡ 0 = ap (above w) (sym (until_one all es L R s)) ∙ z s h in
        z s h ∙ sym (rounds_above 0 s h ∙ zeros (above w (at L s)) (above w (at R s)) (best (choose all) (map (C 0) (succs es s))) right_zero best_zero)
      where
        keeps : (all : Bool) (a x : ℕ) → a ≤ 0 → x ≤ 0 → choose all a x ≤ 0
        keeps false a x p q = omega arith
        keeps true a x p q = omega arith

        zeros : (l r v : ℕ) → r ≡ 0 → v ≤ 0 → step l r v ≡ 0
        zeros l r v e k = omega arith

    -- at rest, or one more with each round
    grows : (n : ℕ) → Still n ⊎ (suc n ≤ sum (C n) S)
    grows zero =
        ⊎_elim
        (λ (e : sum (C 0) S ≡ 0). inl (nobody (λ s l. sym (sum_same (λ (s : ℕ). 0) (C 0) S (λ s l. omega arith) (omega (arith, sum_const 0 S)) s l))))
        (λ (p : 0 < sum (C 0) S). inr p)
        (eq-zero-or-pos (sum (C 0) S))
    grows (suc n) = go (grows n) (eq-or-lt_of_le (sum_le (C n) (C (suc n)) S (climbs_above n)))
      where
        go : Still n ⊎ (suc n ≤ sum (C n) S) → (sum (C n) S ≡ sum (C (suc n)) S) ⊎ (sum (C n) S < sum (C (suc n)) S) → Still (suc n) ⊎ (suc (suc n) ≤ sum (C (suc n)) S)
        go (inl r) d = inl (rests_on S es G C made_above rounds_above n r)
        go (inr p) (inl e) = inl (rests_on S es G C made_above rounds_above n (λ s l. sum_same (C n) (C (suc n)) S (climbs_above n) (omega arith) s l))
        go (inr p) (inr l) = inr (omega arith)

    -- after S states everybody is above w, or the row is at rest
    still : (m : ℕ) → S ≡ suc m → Still m
    still m e =
        ⊎_elim
        (λ (r : Still m). r)
        (λ (p : suc m ≤ sum (C m) S). λ s l.
        let full : C m s ≡ 1 = sum_same (C m) (λ (s : ℕ). 1) S (λ s l. omega arith) (omega (arith, sum_const 1 S)) s l in
        omega (arith, climbs_above m s l))
        (grows m)

  -- rows over walks of S states have come to rest
  pub rests : (m : ℕ) → S ≡ suc m → (s : ℕ) → s < S → W m s ≡ W (suc m) s
  rests m e s h = same_levels (W m s) (W (suc m) s) (λ w. still w m e s h)

  -- S entries suffice: longer walks give the same
  pub enough : (d s : ℕ) → s < S → until all es L R S s ≡ until all es L R (S + d) s
  enough d s h = go S refl
    where
      go : (k : ℕ) → S ≡ k → until all es L R S s ≡ until all es L R (S + d) s
      go zero e = absurd (omega arith)
      go (suc m) e = ap (λ (k : ℕ). until all es L R k s) e ∙ rests_after S es G W made (until_step all S es G L R) d m (rests m e) s h ∙ ap (λ (k : ℕ). until all es L R k s) size
        where
          size : suc (m + d) ≡ S + d
          size = omega arith

  -- no walk length gives more
  pub never_above : (n s : ℕ) → s < S → until all es L R (suc n) s ≤ until all es L R S s
  never_above n s h = rw (enough (suc n) s h) (subst (λ (k : ℕ). W n s ≤ until all es L R k s) size (never_falls (λ (k : ℕ). W k s) (suc (n + S)) (λ k l. climbs k s h) n (n + S) (omega arith) (omega arith)))
    where
      size : suc (n + S) ≡ S + suc n
      size = omega arith

  -- E and A over walks of S states satisfy their equation
  pub settled : (s : ℕ) → s < S → until all es L R S s ≡ step (at L s) (at R s) (best (choose all) (map (until all es L R S) (succs es s)))
  settled s h = go S refl
    where
      go : (k : ℕ) → S ≡ k → until all es L R S s ≡ step (at L s) (at R s) (best (choose all) (map (until all es L R S) (succs es s)))
      go zero e = absurd (omega arith)
      go (suc m) e = subst (λ (k : ℕ). until all es L R k s ≡ step (at L s) (at R s) (best (choose all) (map (until all es L R k) (succs es s)))) (sym e) (rests m e s h ∙ until_step all S es G L R m s h)
