-- The rounds: the witnesses of one entry, one state settled, a round of all states, and what the distances say once they reach far enough.
use mathlib.Core.Path.{◌≡◌, refl, sym, ap, ◌∙◌}
use Prim.Native.Nat.{ℕ, ◌+◌, ◌-◌, ◌≤◌, ◌<◌}
use mathlib.Core.List.{List, [], ◌∷◌}
use mathlib.Core.Bool.{Bool, true, false, cond, ◌||◌}
use mathlib.Core.Logic.{◌⊎◌, inl, inr, ⊎_elim}
use native.Mathlib.Omega.{arith}
use borrow.Author.Count.{below_more}
use lib.ListN.{length, set, length-set, get_or-eq_default}
use lib.Dec.{leb, ltb}
use borrow.Author.Tests.{leb-false, leb-true, ltb-false, ltb-true}
use Rattle.lists.specs.Entries.{at}
use Rattle.lists.specs.Rows.{Filled}
use Rattle.lists.proofs.Entries.{set_or_not}
use Rattle.lists.proofs.Numbers.{lt_or_le}
use Rattle.lists.proofs.Rows.{filled_at, filled_length}
use Rattle.kripke.specs.Transitions.{Edge, Graph, succs}
use Rattle.std.specs.Option.{IsSome}
use Rattle.paths.proofs.Fits.{Picked, picked}
use Rattle.paths.specs.Questions.{From, Reaches}
use Rattle.paths.specs.Inside.{Down, Far, Layers, Rounded, Settled, Upto, at_once, first_fit}
use Rattle.paths.proofs.Simple.{shorten}

module _ {es : List ℕ} {L R : ℕ → Type 0} where
  upto_wider : {k : ℕ} {d : List ℕ} → Upto es L R k k d → Upto es L R k (k + 1) d
  upto_wider u = record { sound = u.sound; least = u.least; bound = λ s. omega (arith, u.bound s) }

  -- a state gets k + 1
  upto_set : {k a : ℕ} {d : List ℕ} (b : ℕ) → Upto es L R k (k + 1) d → at d a ≡ 0 → at d b ≡ k → 0 < k → L a → Edge es a b → a < length d → Upto es L R k (k + 1) (set d a (k + 1))
  upto_set {k} {a} {d} b u za kb pos la eab h =
      record {
        sound = λ s p.
            ⊎_elim
            (λ w. let x = u.sound b (omega arith) in (b ∷ x.0, rw w.0 (la, eab, x.1), omega (arith, x.2)))
            (λ w. let x = u.sound s (omega arith) in (x.0, x.1, omega (arith, x.2)))
            (set_or_not 0 d a (k + 1) s h);
        least = λ s p f m.
            let x = u.least s p f m in
            ⊎_elim
            (λ w. let e : at d s ≡ at d a = ap (at d) w.0 in absurd (omega (arith, x.0)))
            (λ w. (omega (arith, x.0), omega (arith, x.1)))
            (set_or_not 0 d a (k + 1) s h);
        bound = λ s. let x = u.bound s in ⊎_elim (λ w. omega arith) (λ w. omega arith) (set_or_not 0 d a (k + 1) s h);
      }

  -- all states have been settled
  upto_done : {k : ℕ} {d : List ℕ} → Upto es L R k (k + 1) d → 0 < k → ((s t : ℕ) → Edge es s t → L s → at d t ≡ k → 0 < at d s) → Upto es L R (k + 1) (k + 1) d
  upto_done {k} {d} u pos all = record { sound = u.sound; least = least; bound = u.bound }
    where
      reached : (s : ℕ) (p : List ℕ) → From es L R s p → length p ≡ k → 0 < at d s
      reached s [] f e = absurd (omega arith)
      reached s (t ∷ r) f e =
          let m = u.least t r f.2 (omega arith) in
          let x = u.sound t m.0 in
          ⊎_elim
          (λ (h : at d t < k). (u.least s (t ∷ x.0) (f.0, f.1, x.1) (omega (arith, x.2))).0)
          (λ (h : k ≤ at d t). all s t f.1 f.0 (omega (arith, m.1)))
          (lt_or_le (at d t) k)

      least : (s : ℕ) (p : List ℕ) → From es L R s p → length p + 1 ≤ k + 1 → (0 < at d s) × (at d s ≤ length p + 1)
      least s p f h =
          ⊎_elim
          (λ (m : length p < k). u.least s p f (omega arith))
          (λ (m : k ≤ length p). (reached s p f (omega arith), omega (arith, u.bound s)))
          (lt_or_le (length p) k)

  upto_start : {d : List ℕ} → ((s : ℕ) → (R s × (at d s ≡ 1)) ⊎ ((R s → ⊥) × (at d s ≡ 0))) → Upto es L R 1 1 d
  upto_start {d} h =
      record {
        sound = λ s p. ⊎_elim (λ w. ([], w.0, omega (arith, w.1))) (λ w. absurd (omega (arith, w.1))) (h s);
        least = λ s p f m. go s p f m (h s);
        bound = λ s. ⊎_elim (λ w. omega (arith, w.1)) (λ w. omega (arith, w.1)) (h s);
      }
    where
      go : (s : ℕ) (p : List ℕ) → From es L R s p → length p + 1 ≤ 1 → (R s × (at d s ≡ 1)) ⊎ ((R s → ⊥) × (at d s ≡ 0)) → (0 < at d s) × (at d s ≤ length p + 1)
      go s [] f m (inl w) = (omega (arith, w.1), omega (arith, w.1))
      go s [] f m (inr w) = absurd (w.0 f)
      go s (t ∷ p) f m w = absurd (omega arith)

-- before the rounds
pub begun_upto : (S : ℕ) (es left right : List ℕ) (level : ℕ) (before d : List ℕ) → S ≤ length before → Filled (at_once S (at right) level) (length before) before d → Upto es (Reaches S level (at left)) (Reaches S level (at right)) 1 1 d
unfolding at_once
begun_upto S es left right level before d room f = upto_start (λ s. ⊎_elim (λ (h : s < length before). inside s h) (λ (h : length before ≤ s). inr (λ r. omega (arith, r.0), get_or-eq_default d 0 (omega (arith, filled_length _ _ _ _ f (omega arith))))) (lt_or_le s (length before)))
  where
    inside : (s : ℕ) → s < length before → (Reaches S level (at right) s × (at d s ≡ 1)) ⊎ ((Reaches S level (at right) s → ⊥) × (at d s ≡ 0))
    inside s h = go (leb S s) (ltb (at right s) level) refl refl (filled_at (at_once S (at right) level) (length before) before d f s h)
      where
        go : (x y : Bool) → leb S s ≡ x → ltb (at right s) level ≡ y → at d s ≡ cond (x || y) 0 1 → (Reaches S level (at right) s × (at d s ≡ 1)) ⊎ ((Reaches S level (at right) s → ⊥) × (at d s ≡ 0))
        go true y p q e = inr (λ r. omega (arith, leb-true S s p, r.0), e)
        go false true p q e = inr (λ r. omega (arith, ltb-true (at right s) level q, r.1), e)
        go false false p q e = inl ((leb-false S s p, ltb-false (at right s) level q), e)

-- the first n states of round k are settled
pub record Rounding (S : ℕ) (es left : List ℕ) (level k : ℕ) (d₀ d : List ℕ) (n : ℕ) : Type 0 where
  pub here : n ≤ S
  pub size : length d ≡ length d₀
  pub keep : (right : List ℕ) → Upto es (Reaches S level (at left)) (Reaches S level (at right)) k k d₀ → Upto es (Reaches S level (at left)) (Reaches S level (at right)) k (k + 1) d
  pub seen : (s : ℕ) → s < n → (t : ℕ) → level ≤ at left s → Edge es s t → at d t ≡ k → 0 < at d s

module _ {S : ℕ} {es left : List ℕ} {level k : ℕ} {d₀ : List ℕ} where
  pub rounding_start : Rounding S es left level k d₀ d₀ 0
  rounding_start = record { here = omega arith; size = refl; keep = λ r u. upto_wider u; seen = λ s h. absurd (omega arith) }

  pub rounding_step : {d e : List ℕ} {s : ℕ} → Rounding S es left level k d₀ d s → s < S → S ≤ length d₀ → 0 < k → Settled es (at left) level k s d e → Rounding S es left level k d₀ e (s + 1)
  rounding_step {d} {e} {s} x h room pos (inl w) =
      let size : length e ≡ length d = ap length w.0 ∙ length-set d s (k + 1) in
      let far : s < length d = omega (arith, x.size) in
      record {
        here = omega arith;
        size = omega (arith, x.size);
        keep = λ r u. rw w.0 (upto_set w.3.0 (x.keep r u) w.1 w.3.2 pos (h, w.2) w.3.1 far);
        seen = rw w.0 (λ j g t l m q.
            ⊎_elim
            (λ (a : (j ≡ s) × (at (set d s (k + 1)) j ≡ k + 1)). omega (arith, a.1))
            (λ (a : (j ≡ s → ⊥) × (at (set d s (k + 1)) j ≡ at d j)).
            ⊎_elim
            (λ (b : (t ≡ s) × (at (set d s (k + 1)) t ≡ k + 1)). absurd (omega (arith, b.1)))
            (λ (b : (t ≡ s → ⊥) × (at (set d s (k + 1)) t ≡ at d t)). omega (arith, a.1, x.seen j (omega (arith, a.0)) t l m (sym b.1 ∙ q)))
            (set_or_not 0 d s (k + 1) t far))
            (set_or_not 0 d s (k + 1) j far));
      }
  rounding_step {d} {e} {s} x h room pos (inr w) =
      record {
        here = omega arith;
        size = ap length w.0 ∙ x.size;
        keep = λ r u. rw w.0 (x.keep r u);
        seen = rw w.0 (below_more (λ (j : ℕ). (t : ℕ) → level ≤ at left j → Edge es j t → at d t ≡ k → 0 < at d j) s x.seen w.1);
      }

  pub rounding_end : {d : List ℕ} {n : ℕ} → Rounding S es left level k d₀ d n → S ≤ n → 0 < k → Rounded S es left level k d₀ d
  rounding_end x h pos = record { more = λ r u. upto_done (x.keep r u) pos (λ s t e l q. x.seen s (omega (arith, l.0)) t l.1 e q) }

-- a witness of as many entries as the distance is a way down
pub far_down : {es : List ℕ} {L R : ℕ → Type 0} {S start : ℕ} {d : List ℕ} → Far es L R S start d → (s : ℕ) (p : List ℕ) → From es L R s p → at d s ≡ length p + 1 → Down es (at d) s p
far_down far s [] f e = e
far_down {d = d} far s (t ∷ p) f e =
    let u = far.upto in
    let b = u.bound s in
    let a = u.least t p f.2 (omega arith) in
    let y = u.sound t a.0 in
    let c = u.least s (t ∷ y.0) (f.0, f.1, y.1) (omega (arith, y.2, a.1)) in
    let g : at d t ≡ length p + 1 = omega (arith, y.2, a.1, c.1) in
    ((f.1, omega arith), far_down far t p f.2 g)

-- distances that reach far enough have what going down needs
pub far_layers : {es : List ℕ} {L R : ℕ → Type 0} {S start : ℕ} {d : List ℕ} → Graph S es → ((s : ℕ) → L s → s < S) → ((s : ℕ) → R s → s < S) → Far es L R S start d → Layers S es d
far_layers {es} {L} {R} {S} {start} {d} G ls rs far = record { inside = inside; few = few; next = next }
  where
    first_state : (s : ℕ) (p : List ℕ) → From es L R s p → s < S
    first_state s [] f = rs s f
    first_state s (t ∷ p) f = ls s f.0

    inside : (s : ℕ) → 0 < at d s → s < S
    inside s h = let x = far.upto.sound s h in first_state s x.0 x.1

    few : (s : ℕ) → at d s ≤ S
    few s = ⊎_elim (λ (h : 0 < at d s). some h) (λ (h : at d s ≤ 0). omega arith) (lt_or_le 0 (at d s))
      where
        some : 0 < at d s → at d s ≤ S
        some h =
            let x = far.upto.sound s h in
            let y = shorten es L R S ls rs s x.0 x.1 in
            ⊎_elim
            (λ (l : length y.0 < far.reach). omega (arith, (far.upto.least s y.0 y.1 (omega arith)).1, y.2))
            (λ (l : far.reach ≤ length y.0). omega (arith, far.upto.bound s, y.2))
            (lt_or_le (length y.0) far.reach)

    below : (s : ℕ) → 1 < at d s → (t : ℕ) × Edge es s t × (at d s ≡ at d t + 1)
    below s h = let x = far.upto.sound s (omega arith) in go x.0 x.1 x.2
      where
        go : (p : List ℕ) → From es L R s p → length p + 1 ≡ at d s → (t : ℕ) × Edge es s t × (at d s ≡ at d t + 1)
        go [] f e = absurd (omega arith)
        go (t ∷ p) f e = let w = far_down far s (t ∷ p) f (sym e) in (t, w.0.0, w.0.1)

    next : (s : ℕ) → 1 < at d s → IsSome (first_fit d (at d s - 1) 0 (succs es s))
    next s h =
        let b = below s h in
        let p : Picked es d s (at d s - 1) 0 (first_fit d (at d s - 1) 0 (succs es s)) = picked G refl in
        let l = p.least b.0 b.1 (omega (arith, b.2)) (omega arith) in
        rw l.1 refl
