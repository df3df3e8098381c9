-- Over distances that reach far enough, the shortest witnesses are the ways down: the least one, the next one, and the last one.
use mathlib.Core.Path.{◌≡◌, refl, sym, ap₂}
use Prim.Native.Nat.{ℕ, ◌≤◌, ◌<◌}
use mathlib.Core.List.{List, [], ◌∷◌}
use mathlib.Core.Logic.{◌⊎◌, inl, inr, ⊎_elim}
use native.Mathlib.Omega.{arith}
use lib.ListN.{length, drop}
use Rattle.lists.specs.Entries.{at}
use Rattle.lists.proofs.Numbers.{lt_or_le}
use Rattle.kripke.specs.Walks.{Begins}
use Rattle.paths.specs.Questions.{From, LeftHolds, Question, RightHolds, Shortest, Witness}
use Rattle.paths.specs.Order.{Beyond, Least, Smaller}
use Rattle.paths.specs.Inside.{Down, Far, Greatest, Greedy, Onto}
use Rattle.paths.proofs.Advancing.{down_length}
use Rattle.paths.proofs.Places.{from_map}
use Rattle.paths.proofs.Rounding.{far_down}
use Rattle.paths.proofs.Simple.{shorten}
use Rattle.paths.proofs.Ways.{greatest_last, greedy_down, greedy_least, onto_down, onto_larger, onto_least}

-- two predicates that say the same give the same distances
pub far_map : (es : List ℕ) (L R L' R' : ℕ → Type 0) (S start : ℕ) (d : List ℕ) → ((s : ℕ) → L s → L' s) → ((s : ℕ) → R s → R' s) → ((s : ℕ) → L' s → L s) → ((s : ℕ) → R' s → R s) → Far es L R S start d → Far es L' R' S start d
far_map es L R L' R' S start d l r l' r' far =
    record {
      reach = far.reach;
      upto = record {
        sound = λ s h. let x = far.upto.sound s h in (x.0, from_map es L R L' R' l r s x.0 x.1, x.2);
        least = λ s p f h. far.upto.least s p (from_map es L' R' L R l' r' s p f) h;
        bound = far.upto.bound;
      };
      enough = far.enough;
    }

module _ (q : Question) (start : ℕ) (d : List ℕ) (far : Far q.transitions (LeftHolds q) (RightHolds q) q.states start d) where
  abbrev es : List ℕ
  es = q.transitions

  abbrev Fr : ℕ → List ℕ → Type 0
  Fr = From es (LeftHolds q) (RightHolds q)

  last_right : (s : ℕ) (r : List ℕ) → Fr s r → length r ≡ 0 → RightHolds q s
  last_right s [] f e = f
  last_right s (u ∷ r) f e = absurd (omega arith)

  inner_left : (s : ℕ) (r : List ℕ) → Fr s r → 0 < length r → LeftHolds q s
  inner_left s [] f e = absurd (omega arith)
  inner_left s (u ∷ r) f e = f.0

  down_from : (s : ℕ) (p : List ℕ) → Down es (at d) s p → Fr s p
  down_from s [] h = let x = far.upto.sound s (omega arith) in last_right s x.0 x.1 (omega (arith, x.2))
  down_from s (t ∷ p) h =
      let i = down_length es (at d) t p h.1 in
      let x = far.upto.sound s (omega (arith, h.0.1)) in
      (inner_left s x.0 x.1 (omega (arith, x.2, h.0.1)), h.0.0, down_from t p h.1)

  pub down_shortest : (s : ℕ) (p : List ℕ) → Down es (at d) s p → Shortest q s (s ∷ p)
  down_shortest s p h = record { begins = refl; witness = down_from s p h; fewest = go }
    where
      go : (r : List ℕ) → Begins s r → Witness q r → length (s ∷ p) ≤ length r
      go [] b w = absurd b
      go (t ∷ r) b w =
          let i = down_length es (at d) s p h in
          let f : Fr s r = rw b at w in
          ⊎_elim
          (λ (l : length r < far.reach). omega (arith, (far.upto.least s r f (omega arith)).1))
          (λ (l : far.reach ≤ length r). omega (arith, far.upto.bound s))
          (lt_or_le (length r) far.reach)

  pub shortest_down : (s t : ℕ) (p : List ℕ) → 0 < at d s → Shortest q s (t ∷ p) → (s ≡ t) × Down es (at d) s p
  shortest_down s t p pos h =
      let f : Fr s p = rw h.begins at h.witness in
      let x = far.upto.sound s pos in
      let m : length (t ∷ p) ≤ length (s ∷ x.0) = h.fewest (s ∷ x.0) refl x.1 in
      let l = far.upto.least s p f (omega (arith, x.2, far.upto.bound s)) in
      (sym h.begins, far_down far s p f (omega (arith, x.2, l.1)))

  -- a witness whose length is its first entry's distance
  pub witness_down : (p : List ℕ) → Witness q p → at d (at p 0) ≡ length p → Down es (at d) (at p 0) (drop 1 p)
  witness_down [] w e = absurd w
  witness_down (x ∷ p) w e = far_down far x p w (omega arith)

  -- a start with a witness has a distance, and one without a distance has no witness
  pub has_distance : (p : List ℕ) → at p 0 ≡ start → Witness q p → 0 < at d start
  has_distance [] e w = absurd w
  has_distance (t ∷ p) e w =
      let f : Fr start p = rw e at w in
      let x = shorten es (LeftHolds q) (RightHolds q) q.states (λ s h. h.0) (λ s h. h.0) start p f in
      ⊎_elim (λ (h : 0 < at d start). h) (λ (h : q.states ≤ far.reach). (far.upto.least start x.0 x.1 (omega (arith, x.2))).0) far.enough

  pub no_witness : at d start ≡ 0 → (p : List ℕ) → Begins start p → Witness q p → ⊥
  no_witness e [] b w = b
  no_witness e (t ∷ p) b w = omega (arith, has_distance (t ∷ p) b w)

  -- a start with a distance has a shortest witness of so many entries
  pub sound_shortest : 0 < at d start → (p : List ℕ) × Shortest q start p × (length p ≡ at d start)
  sound_shortest pos =
      let x = far.upto.sound start pos in
      (start ∷ x.0, down_shortest start x.0 (far_down far start x.0 x.1 (omega (arith, x.2))), omega (arith, x.2))

  -- the smallest
  pub first_least : (p : List ℕ) → 0 < at d start → Greedy es (at d) start p → Least (Shortest q start) (start ∷ p)
  first_least p pos g = record { is = down_shortest start p (greedy_down es (at d) start p g); least = go }
    where
      go : (r : List ℕ) → Shortest q start r → (start ∷ p ≡ r) ⊎ Smaller (start ∷ p) r
      go [] h = absurd h.begins
      go (t ∷ r) h =
          let x = shortest_down start t r pos h in
          ⊎_elim (λ e. inl (ap₂ ◌∷◌ x.0 e)) (λ l. inr (inr (x.0, l))) (greedy_least es (at d) start p r g x.1)

  -- the next larger one
  pub next_least : (p r : List ℕ) → 0 < at d start → Down es (at d) start p → Onto es (at d) start p r → Least (Beyond (Shortest q start) (start ∷ p)) (start ∷ r)
  next_least p r pos h o = record { is = record { is = down_shortest start r (onto_down es (at d) start p r h o); larger = inr (refl, onto_larger es (at d) start p r o) }; least = go }
    where
      go : (v : List ℕ) → Beyond (Shortest q start) (start ∷ p) v → (start ∷ r ≡ v) ⊎ Smaller (start ∷ r) v
      go [] k = absurd k.larger
      go (t ∷ v) k =
          let x = shortest_down start t v pos k.is in
          let l : Smaller p v = ⊎_elim (λ z. absurd (omega (arith, x.0))) (λ z. z.1) k.larger in
          ⊎_elim (λ e. inl (ap₂ ◌∷◌ x.0 e)) (λ y. inr (inr (x.0, y))) (onto_least es (at d) start p r v h o x.1 l)

  -- none larger
  pub none_larger : (p : List ℕ) → 0 < at d start → Down es (at d) start p → Greatest es (at d) start p → (r : List ℕ) → Beyond (Shortest q start) (start ∷ p) r → ⊥
  none_larger p pos h t [] k = k.larger
  none_larger p pos h t (u ∷ r) k =
      let x = shortest_down start u r pos k.is in
      let l : Smaller p r = ⊎_elim (λ z. absurd (omega (arith, x.0))) (λ z. z.1) k.larger in
      greatest_last es (at d) start p r h t x.1 l
