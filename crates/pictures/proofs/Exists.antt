-- A picture from s exists exactly if A(left U right) is false at s, and then there is one of at most S entries.
use mathlib.Core.Path.{◌≡◌, refl, sym, ap, ◌∙◌, subst}
use Prim.Native.Nat.{ℕ, zero, suc, ◌-◌, ◌≤◌, ◌<◌}
use mathlib.Core.List.{List, [], ◌∷◌}
use mathlib.Core.Bool.{true}
use mathlib.Core.Logic.{inl, inr, ⊎_elim, ◌↔◌}
use native.Mathlib.Omega.{arith}
use lib.ListN.{length}
use Rattle.lists.specs.Entries.{All, Some, at}
use Rattle.lists.proofs.Entries.{all_at, all_weaken}
use Rattle.lists.proofs.Numbers.{lt_or_le}
use Rattle.values.specs.Rows.{row_values}
use Rattle.values.proofs.StoredRows.{values_at}
use Rattle.kripke.specs.Transitions.{Edge, Graph}
use Rattle.kripke.specs.Until.{until}
use Rattle.kripke.specs.Walks.{Begins, Joined}
use Rattle.pictures.specs.declared.Ending.{Ending}
use Rattle.pictures.specs.declared.Ending.TheVariants.{Falls, Back}
use Rattle.pictures.specs.Inside.{Goes}
use Rattle.pictures.specs.Pictures.{Along, Drawn, EndsBy, IsFalse, Pictured, PicturedWithin, Question, last}
use Rattle.pictures.proofs.Closing.{False, false_goes, false_low, goes_false}
use Rattle.pictures.proofs.Walking.{Ended, walk_ends}

some_length : (p : List ℕ) → Some p → 0 < length p
some_length [] h = absurd h
some_length (x ∷ p) h = omega arith

joined_at : (es p : List ℕ) → Joined es p → (i : ℕ) → suc i < length p → Edge es (at p i) (at p (suc i))
joined_at es [] j i h = absurd (omega arith)
joined_at es (x ∷ []) j i h = absurd (omega arith)
joined_at es (x ∷ y ∷ p) j zero h = j.0
joined_at es (x ∷ y ∷ p) j (suc i) h = joined_at es (y ∷ p) j.1 i (omega arith)

module _ (S : ℕ) (es : List ℕ) where
  -- the last entry is a state
  pub last_state : (right : ℕ → ℕ) (p : List ℕ) → Along S es right p → (0 < length p) × (last p < S)
  last_state right p a = let l = some_length p a.some in (l, all_at (λ (s : ℕ). s < S) p a.states (length p - 1) (omega arith))

  -- values that agree at the states have the same pictures
  pub drawn_same : (left left' right right' : ℕ → ℕ) → ((s : ℕ) → s < S → left s ≡ left' s) → ((s : ℕ) → s < S → right s ≡ right' s) → (p : List ℕ) (e : Ending) → Drawn S es left right p e → Drawn S es left' right' p e
  drawn_same left left' right right' l r p e d =
      record {
        along = record { some = d.along.some; states = d.along.states; joined = d.along.joined; right_false = both p d.along.states d.along.right_false };
        ends = ended e d.ends;
      }
    where
      both : (p : List ℕ) → All (λ (s : ℕ). s < S) p → All (λ (s : ℕ). right s ≡ 0) p → All (λ (s : ℕ). right' s ≡ 0) p
      both [] a b = tt
      both (x ∷ p) a b = (sym (r x a.0) ∙ b.0, both p a.1 b.1)

      ended : (e : Ending) → EndsBy es left p e → EndsBy es left' p e
      ended Falls q = sym (l (last p) (last_state right p d.along).1) ∙ q
      ended (Back k) q = q

  module _ (G : Graph S es) (L R : List ℕ) where
    -- the entries of a picture go on
    module _ (p : List ℕ) (e : Ending) (d : Drawn S es (at L) (at R) p e) where
      abbrev Entry : ℕ → Type 0
      Entry x = (i : ℕ) × (i < length p) × (at p i ≡ x)

      entry_in : (x : ℕ) → Entry x → x < S
      entry_in x y = subst (λ (z : ℕ). z < S) y.2 (all_at (λ (s : ℕ). s < S) p d.along.states y.0 y.1)

      entry_low : (x : ℕ) → Entry x → at R x ≡ 0
      entry_low x y = subst (λ (z : ℕ). at R z ≡ 0) y.2 (all_at (λ (s : ℕ). at R s ≡ 0) p d.along.right_false y.0 y.1)

      entry_goes : (x : ℕ) → Entry x → Goes es (at L) Entry x
      entry_goes x y = ⊎_elim before at_last (lt_or_le (suc y.0) (length p))
        where
          before : suc y.0 < length p → Goes es (at L) Entry x
          before h = inr (at p (suc y.0), subst (λ (z : ℕ). Edge es z (at p (suc y.0))) y.2 (joined_at es p d.along.joined y.0 h), (suc y.0, h, refl))

          ended : (e : Ending) → EndsBy es (at L) p e → last p ≡ x → Goes es (at L) Entry x
          ended Falls q is = inl (ap (at L) (sym is) ∙ q)
          ended (Back k) q is = inr (at p k, subst (λ (z : ℕ). Edge es z (at p k)) is q.1, (k, q.0, refl))

          at_last : length p ≤ suc y.0 → Goes es (at L) Entry x
          at_last h = let i : length p - 1 ≡ y.0 = omega (arith, y.1) in ended e d.ends (ap (at p) i ∙ y.2)

      pub drawn_false : (s : ℕ) → Begins s p → until true es L R S s ≡ 0
      drawn_false s b = goes_false S es G L R Entry entry_in entry_low entry_goes s (first p b)
        where
          first : (p : List ℕ) → Begins s p → (i : ℕ) × (i < length p) × (at p i ≡ s)
          first [] b = absurd b
          first (x ∷ p) b = (0, omega arith, b)

    begins_some : (s : ℕ) (p : List ℕ) → Begins s p → Some p
    begins_some s [] b = absurd b
    begins_some s (x ∷ p) b = tt

    -- where it is false a walk draws one
    pub false_drawn : (s : ℕ) → s < S → until true es L R S s ≡ 0 → (p : List ℕ) × (e : Ending) × Begins s p × Drawn S es (at L) (at R) p e × (length p ≤ S)
    false_drawn s h z =
        let w : Ended S es (False S es G L R) (λ t f. f.0) s (at L) = walk_ends S es (False S es G L R) (λ t f. f.0) s (at L) (λ t f. false_goes S es G L R t f) (h, z) in (
          w.path,
          w.ending,
          w.begins,
          record {
            along = record {
              some = begins_some s w.path w.begins;
              states = all_weaken (False S es G L R) (λ (t : ℕ). t < S) (λ t f. f.0) w.path w.holds;
              joined = w.joined;
              right_false = all_weaken (False S es G L R) (λ (t : ℕ). at R t ≡ 0) (λ t f. false_low S es G L R t f) w.path w.holds;
            };
            ends = w.ends;
          },
          w.few,
        )

    -- rows that agree at the states are false together
    pub false_same : (L' R' : List ℕ) → ((s : ℕ) → s < S → at L s ≡ at L' s) → ((s : ℕ) → s < S → at R s ≡ at R' s) → (s : ℕ) → s < S → until true es L R S s ≡ 0 → until true es L' R' S s ≡ 0
    false_same L' R' l r s h z =
        goes_false S es G L' R' (False S es G L R) (λ t f. f.0) (λ t f. sym (r t f.0) ∙ false_low S es G L R t f)
        (λ t f. ⊎_elim (λ y. inl (sym (l t f.0) ∙ y)) inr (false_goes S es G L R t f)) s (h, z)

-- the law for stored rows
module _ (q : Question) (G : Graph q.states q.transitions) (s : ℕ) (h : s < q.states) where
  pub pictured_false : Pictured q s → IsFalse q s
  pictured_false x =
      drawn_false q.states q.transitions G (row_values q.states q.left) (row_values q.states q.right) x.0 x.1
      (drawn_same q.states q.transitions _ _ _ _ (λ t l. sym (values_at q.states q.left t l)) (λ t l. sym (values_at q.states q.right t l)) x.0 x.1 x.3) s x.2

  pub false_pictured : IsFalse q s → PicturedWithin q s q.states
  false_pictured z =
      let x = false_drawn q.states q.transitions G (row_values q.states q.left) (row_values q.states q.right) s h z in
      (x.0, x.1, x.2, drawn_same q.states q.transitions _ _ _ _ (values_at q.states q.left) (values_at q.states q.right) x.0 x.1 x.3, x.4)

  -- a picture exists exactly if the value is false
  pub pictured_exactly_lem : Pictured q s ↔ IsFalse q s
  pictured_exactly_lem = (pictured_false, λ z. let x = false_pictured z in (x.0, x.1, x.2, x.3))
