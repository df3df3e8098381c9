-- The number that a table of causes gives is the lowest that applies, and no other number is.
use mathlib.Core.Path.{◌≡◌, refl, sym, ap, ◌∙◌}
use Prim.Native.Nat.{ℕ, suc, ◌<◌}
use mathlib.Core.List.{List, [], ◌∷◌, ◌++◌}
use mathlib.Core.Bool.{Bool, true, false, cond, true≢false}
use mathlib.Core.Logic.{◌⊎◌, inl, inr, ⊎_elim}
use native.Mathlib.Omega.{arith}
use native.Mathlib.Nat.{eq-zero-or-pos, le_antisymm}
use lib.Dec.{eqb}
use borrow.Author.Tests.{ne_eqb}
use Rattle.lists.specs.Entries.{All}
use Rattle.lists.specs.Causes.{Applies, Cause, Lowest, Rising, cause, refusal_of}

-- a number that applies stands above what the rows rise from
above : (m : ℕ) (cs : List Cause) → Rising m cs → (n : ℕ) → Applies cs n → m < n
above m [] r n a = absurd a
above m (c ∷ cs) r n a = ⊎_elim (λ (p : (c.number ≡ n) × (c.holds ≡ true)). omega (arith, p.0, r.0)) (λ q. omega (arith, above c.number cs r.1 n q, r.0)) a

-- the first cause that applies is the lowest
pub given : (m : ℕ) (cs : List Cause) → Rising m cs → Lowest (Applies cs) (refusal_of cs)
unfolding refusal_of
given m [] r = record { applies = λ h. h refl; lowest = λ n a. absurd a }
given m (c ∷ cs) r = go c.holds refl (given c.number cs r.1)
  where
    go : (b : Bool) → c.holds ≡ b → Lowest (Applies cs) (refusal_of cs) → Lowest (Applies (c ∷ cs)) (cond b c.number (refusal_of cs))
    go true e g =
        record {
          applies = λ h. inl (refl, e);
          lowest = λ n a. (omega (arith, r.0), ⊎_elim (λ (p : (c.number ≡ n) × (c.holds ≡ true)). omega (arith, p.0)) (λ q. omega (arith, above c.number cs r.1 n q)) a);
        }
    go false e g =
        record {
          applies = λ h. inr (g.applies h);
          lowest = λ n a. ⊎_elim (λ (p : (c.number ≡ n) × (c.holds ≡ true)). absurd (true≢false (sym p.1 ∙ e))) (λ q. g.lowest n q) a;
        }

-- no two numbers are the lowest that applies
pub lowest_one : {P : ℕ → Type 0} {n n' : ℕ} → Lowest P n → Lowest P n' → n ≡ n'
lowest_one {P} {n} {n'} g g' = go (eq-zero-or-pos n) (eq-zero-or-pos n')
  where
    go : (n ≡ 0) ⊎ (0 < n) → (n' ≡ 0) ⊎ (0 < n') → n ≡ n'
    go (inl e) (inl e') = e ∙ sym e'
    go (inl e) (inr l') = absurd (omega (arith, (g.lowest n' (g'.applies (λ z. omega arith))).0))
    go (inr l) (inl e') = absurd (omega (arith, (g'.lowest n (g.applies (λ z. omega arith))).0))
    go (inr l) (inr l') = le_antisymm (g.lowest n' (g'.applies (λ z. omega arith))).1 (g'.lowest n (g.applies (λ z. omega arith))).1

-- the table row by row: a cause that applies, and one that does not
pub refused : (n : ℕ) (b : Bool) (cs : List Cause) → b ≡ true → refusal_of (cause n b ∷ cs) ≡ n
unfolding refusal_of
refused n b cs e = ap (λ (x : Bool). cond x n (refusal_of cs)) e

pub skipped : (n : ℕ) (b : Bool) (cs : List Cause) → b ≡ false → refusal_of (cause n b ∷ cs) ≡ refusal_of cs
unfolding refusal_of
skipped n b cs e = ap (λ (x : Bool). cond x n (refusal_of cs)) e

pub none_refused : refusal_of [] ≡ 0
unfolding refusal_of
none_refused = refl

-- where nothing is refused, no cause applies
pub passed : (n : ℕ) (b : Bool) (cs : List Cause) → refusal_of (cause (suc n) b ∷ cs) ≡ 0 → (b ≡ false) × (refusal_of cs ≡ 0)
unfolding refusal_of
passed n true cs e = absurd (omega arith)
passed n false cs e = (refl, e)

-- a number that applies is among those of the causes that may
pub applies_among : (P : ℕ → Bool) (cs : List Cause) (n : ℕ) → Applies cs n → All (λ (c : Cause). (P c.number ≡ true) ⊎ (c.holds ≡ false)) cs → P n ≡ true
applies_among P [] n a h = absurd a
applies_among P (c ∷ cs) n (inl a) h = ⊎_elim (λ (p : P c.number ≡ true). ap P (sym a.0) ∙ p) (λ (q : c.holds ≡ false). absurd (true≢false (sym a.1 ∙ q))) h.0
applies_among P (c ∷ cs) n (inr a) h = applies_among P cs n a h.1

-- what the cause of a number that applies shows
pub applies_shows : {P : Type 0} (cs : List Cause) (n : ℕ) → Applies cs n → All (λ (c : Cause). c.number ≡ n → c.holds ≡ true → P) cs → P
applies_shows [] n a h = absurd a
applies_shows (c ∷ cs) n (inl a) h = h.0 a.0 a.1
applies_shows (c ∷ cs) n (inr a) h = applies_shows cs n a h.1

-- a table in two parts: the first part's number, or the second's where the first gives none
pub refusal_append : (m : ℕ) (cs ds : List Cause) → Rising m cs → refusal_of (cs ++ ds) ≡ cond (eqb (refusal_of cs) 0) (refusal_of ds) (refusal_of cs)
unfolding refusal_of
refusal_append m [] ds r = refl
refusal_append m (c ∷ cs) ds r = go c.holds (refusal_append c.number cs ds r.1)
  where
    go : (b : Bool) → refusal_of (cs ++ ds) ≡ cond (eqb (refusal_of cs) 0) (refusal_of ds) (refusal_of cs) → cond b c.number (refusal_of (cs ++ ds)) ≡ cond (eqb (cond b c.number (refusal_of cs)) 0) (refusal_of ds) (cond b c.number (refusal_of cs))
    go true later = rw (ne_eqb c.number 0 (λ e. omega (arith, r.0)))
    go false later = later
