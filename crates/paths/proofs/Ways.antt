-- Ways down the distances: the smallest, the one with no larger, and the next larger one.
use mathlib.Core.Path.{◌≡◌, refl, sym, ap₂, ◌∙◌}
use Prim.Native.Nat.{ℕ}
use mathlib.Core.List.{List, [], ◌∷◌}
use mathlib.Core.Logic.{◌⊎◌, inl, inr, ⊎_elim}
use native.Mathlib.Omega.{arith}
use native.Mathlib.Nat.{eq-or-lt_of_le}
use Rattle.paths.specs.Order.{Smaller}
use Rattle.paths.specs.Inside.{Down, Greatest, Greedy, Onto}
use Rattle.paths.proofs.Advancing.{down_length}

module _ (es : List ℕ) (d : ℕ → ℕ) where
  pub greedy_down : (s : ℕ) (p : List ℕ) → Greedy es d s p → Down es d s p
  greedy_down s [] h = h
  greedy_down s (t ∷ p) h = (h.0, greedy_down t p h.2)

  pub greedy_least : (s : ℕ) (p r : List ℕ) → Greedy es d s p → Down es d s r → (p ≡ r) ⊎ Smaller p r
  greedy_least s [] [] g h = inl refl
  greedy_least s [] (u ∷ r) g h = absurd (omega (arith, down_length es d u r h.1, h.0.1))
  greedy_least s (t ∷ p) [] g h = absurd (omega (arith, down_length es d t p (greedy_down t p g.2), g.0.1))
  greedy_least s (t ∷ p) (u ∷ r) g h =
      ⊎_elim
      (λ e. ⊎_elim (λ x. inl (ap₂ ◌∷◌ e x)) (λ x. inr (inr (e, x))) (greedy_least t p r g.2 (rw (← e) at h.1)))
      (λ l. inr (inl l))
      (eq-or-lt_of_le (g.1 u h.0))

  pub greatest_last : (s : ℕ) (p r : List ℕ) → Down es d s p → Greatest es d s p → Down es d s r → Smaller p r → ⊥
  greatest_last s [] [] x t h l = elim l [ ]
  greatest_last s (a ∷ p) [] x t h l = elim l [ ]
  greatest_last s [] (u ∷ r) x t h l = omega (arith, down_length es d u r h.1, h.0.1)
  greatest_last s (a ∷ p) (u ∷ r) x t h (inl l) = omega (arith, t.0 u h.0)
  greatest_last s (a ∷ p) (u ∷ r) x t h (inr l) = greatest_last a p r x.1 t.1 (rw (← l.0) at h.1) l.1

  pub onto_down : (s : ℕ) (p r : List ℕ) → Down es d s p → Onto es d s p r → Down es d s r
  onto_down s [] r h x'' = elim x'' [ ]
  onto_down s (t ∷ p) [] h x5 = elim x5 [ ]
  onto_down s (t ∷ p) (u ∷ r) h (inl o) = let i = onto_down t p r h.1 o.1 in rw (← o.0) (h.0, i)
  onto_down s (t ∷ p) (u ∷ r) h (inr o) = (o.1, greedy_down u r o.4)

  pub onto_larger : (s : ℕ) (p r : List ℕ) → Onto es d s p r → Smaller p r
  onto_larger s [] r x' = elim x' [ ]
  onto_larger s (t ∷ p) [] x3 = elim x3 [ ]
  onto_larger s (t ∷ p) (u ∷ r) (inl o) = inr (o.0, onto_larger t p r o.1)
  onto_larger s (t ∷ p) (u ∷ r) (inr o) = inl o.2

  pub onto_least : (s : ℕ) (p r v : List ℕ) → Down es d s p → Onto es d s p r → Down es d s v → Smaller p v → (r ≡ v) ⊎ Smaller r v
  onto_least s [] r v h x4 k _ = elim x4 [ ]
  onto_least s (t ∷ p) [] v h x9 k _ = elim x9 [ ]
  onto_least s (t ∷ p) (u ∷ r) [] h _ k x15 = elim x15 [ ]
  onto_least s (t ∷ p) (u ∷ r) (w ∷ v) h (inl o) k (inl l) = inr (inl (omega (arith, o.0)))
  onto_least s (t ∷ p) (u ∷ r) (w ∷ v) h (inl o) k (inr l) =
      let e : u ≡ w = sym o.0 ∙ l.0 in
      ⊎_elim (λ x. inl (ap₂ ◌∷◌ e x)) (λ x. inr (inr (e, x))) (onto_least t p r v h.1 o.1 (rw (← l.0) at k.1) l.1)
  onto_least s (t ∷ p) (u ∷ r) (w ∷ v) h (inr o) k (inl l) =
      ⊎_elim
      (λ e. ⊎_elim (λ x. inl (ap₂ ◌∷◌ e x)) (λ x. inr (inr (e, x))) (greedy_least u r v o.4 (rw (← e) at k.1)))
      (λ x. inr (inl x))
      (eq-or-lt_of_le (o.3 w k.0 l))
  onto_least s (t ∷ p) (u ∷ r) (w ∷ v) h (inr o) k (inr l) = absurd (greatest_last t p v h.1 o.0 (rw (← l.0) at k.1) l.1)
