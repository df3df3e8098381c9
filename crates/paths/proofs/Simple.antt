-- Where there is a witness there is one with at most S entries: a state that comes twice is cut out, and S states leave no room for more.
use mathlib.Core.Path.{◌≡◌, sym, subst}
use Prim.Native.Nat.{ℕ, zero, suc, ◌≤◌, ◌<◌}
use mathlib.Core.List.{List, [], ◌∷◌}
use mathlib.Core.Logic.{◌⊎◌, inl, inr, ⊎_elim}
use native.Mathlib.Omega.{arith}
use lib.ListN.{length}
use Rattle.lists.specs.Entries.{All}
use Rattle.lists.proofs.Numbers.{same_or_not}
use Rattle.paths.specs.Questions.{From}

-- x is no entry; no entry comes twice
abbrev Out : ℕ → List ℕ → Type 0
Out x xs = All (λ (y : ℕ). x ≡ y → ⊥) xs

abbrev Distinct : List ℕ → Type 0
Distinct [] = Unit {0}
Distinct (x ∷ xs) = Out x xs × Distinct xs

below_out : (n : ℕ) (xs : List ℕ) → All (λ (x : ℕ). x < suc n) xs → Out n xs → All (λ (x : ℕ). x < n) xs
below_out n [] o u = tt
below_out n (x ∷ xs) o u = (omega (arith, o.0, u.0), below_out n xs o.1 u.1)

-- one number fewer, at most one entry fewer
without : (n : ℕ) (xs : List ℕ) → All (λ (x : ℕ). x < suc n) xs → Distinct xs
    → (ys : List ℕ) × All (λ (x : ℕ). x < n) ys × Distinct ys × (length xs ≤ suc (length ys)) × ((x : ℕ) → Out x xs → Out x ys)
without n [] o d = ([], tt, tt, omega arith, λ x u. tt)
without n (x ∷ xs) o d =
    let i = without n xs o.1 d.1 in
    ⊎_elim
    (λ e. (xs, below_out n xs o.1 (rw e d.0), d.1, omega arith, λ z u. u.1))
    (λ f. (x ∷ i.0, (omega (arith, f, o.0), i.1), (i.4 x d.0, i.2), omega (arith, i.3), λ z u. (u.0, i.4 z u.1)))
    (same_or_not n x)

-- distinct numbers below n are at most n
few_distinct : (n : ℕ) (xs : List ℕ) → All (λ (x : ℕ). x < n) xs → Distinct xs → length xs ≤ n
few_distinct zero [] o d = omega arith
few_distinct zero (x ∷ xs) o d = absurd (omega (arith, o.0))
few_distinct (suc n) xs o d = let i = without n xs o d in omega (arith, few_distinct n i.0 i.1 i.2, i.3)

module _ (es : List ℕ) (L R : ℕ → Type 0) where
  -- from s, no state twice, no longer than p
  abbrev SimpleFrom : ℕ → List ℕ → Type 0
  SimpleFrom s p = (r : List ℕ) × From es L R s r × Distinct (s ∷ r) × (length r ≤ length p)

  -- s stands in a witness from t, which then can begin there, or it does not
  cut : (s t : ℕ) (r : List ℕ) → From es L R t r → Distinct (t ∷ r) → Out s (t ∷ r) ⊎ SimpleFrom s r
  cut s t [] f d = ⊎_elim (λ e. inr ([], rw e f, (tt, tt), omega arith)) (λ n. inl (n, tt)) (same_or_not s t)
  cut s t (u ∷ r) f d =
      let i = cut s u r f.2 d.1 in
      ⊎_elim
      (λ e. inr (u ∷ r, rw e f, subst (λ (z : ℕ). Distinct (z ∷ u ∷ r)) (sym e) d, omega arith))
      (λ n. ⊎_elim (λ o. inl (n, o)) (λ x. inr (x.0, x.1, x.2, omega (arith, x.3))) i)
      (same_or_not s t)

  simplify : (s : ℕ) (p : List ℕ) → From es L R s p → SimpleFrom s p
  simplify s [] f = ([], f, (tt, tt), omega arith)
  simplify s (t ∷ p) f =
      let i = simplify t p f.2 in
      ⊎_elim
      (λ o. (t ∷ i.0, (f.0, f.1, i.1), (o, i.2), omega (arith, i.3)))
      (λ x. (x.0, x.1, x.2, omega (arith, x.3, i.3)))
      (cut s t i.0 i.1 i.2)

  module _ (S : ℕ) (left-state : (s : ℕ) → L s → s < S) (right-state : (s : ℕ) → R s → s < S) where
    pub from_states : (s : ℕ) (p : List ℕ) → From es L R s p → All (λ (x : ℕ). x < S) (s ∷ p)
    from_states s [] f = (right-state s f, tt)
    from_states s (t ∷ p) f = (left-state s f.0, from_states t p f.2)

    pub shorten : (s : ℕ) (p : List ℕ) → From es L R s p → (r : List ℕ) × From es L R s r × (length r < S) × (length r ≤ length p)
    shorten s p f =
        let i = simplify s p f in
        (i.0, i.1, omega (arith, few_distinct S (s ∷ i.0) (from_states s i.0 i.1) i.2), i.3)
