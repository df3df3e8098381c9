-- What a label says of the values that were possible: over any comparison that is an order, of every value between the ends.
use mathlib.Core.Path.{◌≡◌, refl, sym, ◌∙◌}
use Prim.Native.Nat.{ℕ}
use mathlib.Core.Bool.{Bool, true, false, not, cond, ◌||◌, and-false, or-true, true≢false}
use mathlib.Core.Logic.{◌⊎◌, inl, inr, ⊎_elim}
use native.Mathlib.Omega.{arith}
use Rattle.lists.proofs.Tests.{and_both, and_parts}
use Rattle.readings.specs.declared.gate.Gate.{Gate}
use Rattle.readings.specs.declared.gate.Gate.TheVariants.{AtLeast, AtMost, Between}
use Rattle.readings.specs.Gates.{sound, not_below, not_above, inside, wholly_inside, wholly_outside, three_way, measured}
use Rattle.readings.proofs.Orders.{Order}

-- which tests a label comes from: the ends in order, all inside, all outside
tests_true : (w i u : Bool) → ◌≡◌ {A = ℕ} (cond w (cond i 2 (cond u 0 1)) 1) 2 → (w ≡ true) × (i ≡ true)
tests_true true true u e = (refl, refl)
tests_true true false true e = absurd (omega arith)
tests_true true false false e = absurd (omega arith)
tests_true false i u e = absurd (omega arith)

tests_false : (w i u : Bool) → ◌≡◌ {A = ℕ} (cond w (cond i 2 (cond u 0 1)) 1) 0 → (w ≡ true) × (u ≡ true)
tests_false true true u e = absurd (omega arith)
tests_false true false true e = (refl, refl)
tests_false true false false e = absurd (omega arith)
tests_false false i u e = absurd (omega arith)

outside_tests : (w i u : Bool) → w ≡ true → i ≡ false → u ≡ true → ◌≡◌ {A = ℕ} (cond w (cond i 2 (cond u 0 1)) 1) 0
outside_tests w i u e h k = rw (e, h, k)

-- a test holds or it doesn't
split : (t : Bool) → (t ≡ true) ⊎ (t ≡ false)
split true = inl refl
split false = inr refl

fails : (t : Bool) → (t ≡ true → ⊥) → t ≡ false
fails true n = absurd (n refl)
fails false n = refl

either_fails : (p q : Bool) → (not p || not q) ≡ true → (p ≡ false) ⊎ (q ≡ false)
either_fails true true e = absurd (true≢false (sym e))
either_fails true false e = inr refl
either_fails false q e = inl refl

module _ {A : Type 0} (le : A → A → Bool) (o : Order le) where
  -- a greater value isn't below the gate either, a smaller one not above
  up : (gate : Gate A) (v w : A) → le v w ≡ true → not_below le gate v ≡ true → not_below le gate w ≡ true
  unfolding not_below
  up (AtLeast x) v w h e = o.through x v w e h
  up (AtMost x) v w h e = refl
  up (Between a b) v w h e = o.through a v w e h

  down : (gate : Gate A) (v w : A) → le v w ≡ true → not_above le gate w ≡ true → not_above le gate v ≡ true
  unfolding not_above
  down (AtLeast x) v w h e = refl
  down (AtMost x) v w h e = o.through v w x h e
  down (Between a b) v w h e = o.through v w b h e

  module _ (gate : Gate A) (l g : A) where
    -- true: both ends lie inside; false: all is below, or all above
    true_ends : measured le gate l g ≡ 2 → (le l g ≡ true) × ((not_below le gate l ≡ true) × (not_above le gate g ≡ true))
    unfolding measured three_way wholly_inside inside
    true_ends e =
        let t = tests_true (le l g) (wholly_inside le gate l g) (wholly_outside le gate l g) e in
        let ends = and_parts (inside le gate l) (inside le gate g) t.1 in
        (t.0, ((and_parts (not_below le gate l) (not_above le gate l) ends.0).0, (and_parts (not_below le gate g) (not_above le gate g) ends.1).1))

    false_side : measured le gate l g ≡ 0 → (le l g ≡ true) × ((not_below le gate g ≡ false) ⊎ (not_above le gate l ≡ false))
    unfolding measured three_way wholly_outside
    false_side e =
        let t = tests_false (le l g) (wholly_inside le gate l g) (wholly_outside le gate l g) e in
        (t.0, either_fails (not_below le gate g) (not_above le gate l) t.1)

    -- and back
    module _ (whole : le l g ≡ true) where
      ends_true : not_below le gate l ≡ true → not_above le gate g ≡ true → measured le gate l g ≡ 2
      unfolding measured three_way wholly_inside inside
      ends_true p q = rw (whole, p, down gate l g whole q, up gate l g whole p, q)

      below_false : not_below le gate g ≡ false → measured le gate l g ≡ 0
      unfolding measured three_way wholly_inside wholly_outside inside
      below_false p =
          let q : not_below le gate l ≡ false = fails (not_below le gate l) (λ e. true≢false (sym (up gate l g whole e) ∙ p)) in
          outside_tests (le l g) (wholly_inside le gate l g) (wholly_outside le gate l g) whole (rw q) (rw p)

      above_false : not_above le gate l ≡ false → measured le gate l g ≡ 0
      unfolding measured three_way wholly_inside wholly_outside inside
      above_false p =
          outside_tests (le l g) (wholly_inside le gate l g) (wholly_outside le gate l g) whole (rw (p, and-false (not_below le gate l))) (rw (p, or-true (not (not_below le gate g))))

    -- a value between the ends
    abbrev Possible : A → Type 0
    Possible v = (le l v ≡ true) × (le v g ≡ true)

    pub true_all : measured le gate l g ≡ 2 → (v : A) → Possible v → inside le gate v ≡ true
    unfolding inside
    true_all e v p =
        let t = true_ends e in
        and_both (not_below le gate v) (not_above le gate v) (up gate l v p.0 t.1.0) (down gate v g p.1 t.1.1)

    pub false_none : measured le gate l g ≡ 0 → (v : A) → Possible v → inside le gate v ≡ false
    unfolding inside
    false_none e v p =
        ⊎_elim
        (λ (b : not_below le gate g ≡ false). fails (inside le gate v) (λ i. true≢false (sym (up gate v g p.1 (and_parts (not_below le gate v) (not_above le gate v) i).0) ∙ b)))
        (λ (b : not_above le gate l ≡ false). fails (inside le gate v) (λ i. true≢false (sym (down gate l v p.0 (and_parts (not_below le gate v) (not_above le gate v) i).1) ∙ b)))
        (false_side e).1

    module _ (whole : le l g ≡ true) where
      least_possible : Possible l
      least_possible = (o.first l g whole, whole)

      greatest_possible : Possible g
      greatest_possible = (whole, o.second l g whole)

      pub all_true : ((v : A) → Possible v → inside le gate v ≡ true) → measured le gate l g ≡ 2
      unfolding inside
      all_true f =
          ends_true whole (and_parts (not_below le gate l) (not_above le gate l) (f l least_possible)).0 (and_parts (not_below le gate g) (not_above le gate g) (f g greatest_possible)).1

      -- equal ends, as 0 and −0 are: one side or the other
      pub single_known : le g l ≡ true → measured le gate l g ≡ 1 → ⊥
      single_known back e =
          ⊎_elim
          (λ (p : not_below le gate g ≡ true).
          ⊎_elim (λ (q : not_above le gate l ≡ true). omega (arith, e, ends_true whole (up gate g l back p) (down gate g l back q)))
          (λ (q : not_above le gate l ≡ false). omega (arith, e, above_false whole q))
          (split (not_above le gate l)))
          (λ (p : not_below le gate g ≡ false). omega (arith, e, below_false whole p))
          (split (not_below le gate g))

  -- a measurement that is neither below a sound gate nor above it has a possible value inside
  meets : (gate : Gate A) (l g : A) → sound le gate ≡ true → le l g ≡ true → not_below le gate g ≡ true → not_above le gate l ≡ true
      → ((v : A) → (le l v ≡ true) × (le v g ≡ true) → inside le gate v ≡ false) → ⊥
  unfolding sound not_below not_above inside
  meets (AtLeast x) l g ok whole p q f = true≢false (sym (and_both (le x g) true p refl) ∙ f g (whole, o.second l g whole))
  meets (AtMost x) l g ok whole p q f = true≢false (sym q ∙ f l (o.first l g whole, whole))
  meets (Between a b) l g ok whole p q f =
      ⊎_elim (λ (h : le a l ≡ true). true≢false (sym (and_both (le a l) (le l b) h q) ∙ f l (o.first l g whole, whole)))
      (λ (h : le l a ≡ true). true≢false (sym (and_both (le a a) (le a b) (o.first a b ok) ok) ∙ f a (h, p)))
      (o.either a l (o.first a b ok) (o.first l g whole))

  pub none_false : (gate : Gate A) (l g : A) → sound le gate ≡ true → le l g ≡ true → ((v : A) → (le l v ≡ true) × (le v g ≡ true) → inside le gate v ≡ false) → measured le gate l g ≡ 0
  none_false gate l g ok whole f =
      ⊎_elim
      (λ (p : not_below le gate g ≡ true).
      ⊎_elim (λ (q : not_above le gate l ≡ true). absurd (meets gate l g ok whole p q f)) (λ (q : not_above le gate l ≡ false). above_false gate l g whole q) (split (not_above le gate l)))
      (λ (p : not_below le gate g ≡ false). below_false gate l g whole p)
      (split (not_below le gate g))

  -- a narrower measurement never contradicts
  module _ (gate : Gate A) (l g l' g' : A) (least : le l l' ≡ true) (within : le l' g' ≡ true) (greatest : le g' g ≡ true) where
    pub narrower_true : measured le gate l g ≡ 2 → measured le gate l' g' ≡ 2
    narrower_true e = let t = true_ends gate l g e in ends_true gate l' g' within (up gate l l' least t.1.0) (down gate g' g greatest t.1.1)

    pub narrower_false : measured le gate l g ≡ 0 → measured le gate l' g' ≡ 0
    narrower_false e =
        ⊎_elim (λ (b : not_below le gate g ≡ false). below_false gate l' g' within (fails (not_below le gate g') (λ i. true≢false (sym (up gate g' g greatest i) ∙ b))))
        (λ (b : not_above le gate l ≡ false). above_false gate l' g' within (fails (not_above le gate l') (λ i. true≢false (sym (down gate l l' least i) ∙ b))))
        (false_side gate l g e).1
