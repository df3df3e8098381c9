-- A table of causes with one cause behind it: the number that is given is the lowest that applies.
use mathlib.Core.Path.{◌≡◌, refl, sym, subst}
use Prim.Native.Nat.{ℕ, ◌≤◌, ◌<◌}
use mathlib.Core.List.{List, [], ◌∷◌, ◌++◌}
use mathlib.Core.Bool.{true}
use mathlib.Core.Logic.{◌⊎◌, inl, inr, ⊎_elim}
use native.Mathlib.Omega.{arith}
use native.Mathlib.Nat.{eq-zero-or-pos}
use Rattle.lists.specs.Entries.{All}
use Rattle.lists.specs.Causes.{Applies, Cause, Lowest, Rising, refusal_of}
use Rattle.lists.proofs.Causes.{given}

-- a number that applies is no higher than the table's highest
pub applies_below : (m : ℕ) (cs : List Cause) → All (λ (c : Cause). c.number ≤ m) cs → (n : ℕ) → Applies cs n → n ≤ m
applies_below m [] a n p = absurd p
applies_below m (c ∷ cs) a n p = ⊎_elim (λ (h : (c.number ≡ n) × (c.holds ≡ true)). omega (arith, a.0, h.0)) (λ h. applies_below m cs a.1 n h) p

-- what applies in a table applies in a longer one
pub applies_left : (cs ds : List Cause) (n : ℕ) → Applies cs n → Applies (cs ++ ds) n
applies_left [] ds n a = absurd a
applies_left (c ∷ cs) ds n a = ⊎_elim inl (λ k. inr (applies_left cs ds n k)) a

-- a table gives no number exactly if no cause of it applies
pub none_applies : (cs : List Cause) → Rising 0 cs → refusal_of cs ≡ 0 → (n : ℕ) → Applies cs n → ⊥
none_applies cs rises z n a = omega (arith, ((given 0 cs rises).lowest n a).0)

pub applies_none : (cs : List Cause) → Rising 0 cs → ((n : ℕ) → Applies cs n → ⊥) → refusal_of cs ≡ 0
applies_none cs rises none = ⊎_elim (λ (z : refusal_of cs ≡ 0). z) (λ (pos : 0 < refusal_of cs). absurd (none (refusal_of cs) ((given 0 cs rises).applies (λ z. omega arith)))) (eq-zero-or-pos (refusal_of cs))

-- a table, and one cause behind it
module _ (cs : List Cause) (rises : Rising 0 cs) (Late : ℕ → Type 0) where
  pub lowest_early : (m n : ℕ) → All (λ (c : Cause). c.number ≤ m) cs → ((k : ℕ) → Late k → m ≤ k) → n ≡ refusal_of cs → 0 < n → Lowest (λ (k : ℕ). Applies cs k ⊎ Late k) n
  lowest_early m n low late e pos =
      let g : Lowest (Applies cs) n = subst (Lowest (Applies cs)) (sym e) (given 0 cs rises) in
      let here : n ≤ m = applies_below m cs low n (g.applies (λ z. omega arith)) in
      record { applies = λ h. inl (g.applies h); lowest = λ k p. ⊎_elim (λ a. g.lowest k a) (λ l. (pos, omega (arith, late k l))) p }

  pub lowest_late : (n : ℕ) → refusal_of cs ≡ 0 → 0 < n → Late n → ((k : ℕ) → Late k → n ≤ k) → Lowest (λ (k : ℕ). Applies cs k ⊎ Late k) n
  lowest_late n z pos here late = record { applies = λ h. inr here; lowest = λ k p. ⊎_elim (λ a. absurd (none_applies cs rises z k a)) (λ l. (pos, late k l)) p }

  pub lowest_none : refusal_of cs ≡ 0 → ((k : ℕ) → Late k → ⊥) → Lowest (λ (k : ℕ). Applies cs k ⊎ Late k) 0
  lowest_none z late = record { applies = λ h. absurd (h refl); lowest = λ k p. absurd (⊎_elim (none_applies cs rises z k) (late k) p) }

  -- a number that the table does not give is given for the cause behind it
  pub only_late : (n : ℕ) → refusal_of cs ≡ 0 → 0 < n → Lowest (λ (k : ℕ). Applies cs k ⊎ Late k) n → Late n
  only_late n z pos l = ⊎_elim (λ a. absurd (none_applies cs rises z n a)) (λ h. h) (l.applies (λ e. omega arith))
