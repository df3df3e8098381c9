-- Any two answers that a call may give coincide. Most promises are equations, r ≡ what is right, and one law serves them, here and in the
-- crates above; `answers_one` of Refusing serves the calls that may refuse.
use mathlib.Core.Path.{◌≡◌, refl, sym, ap, ◌∙◌, subst}
use Prim.Native.Nat.{ℕ}
use native.Mathlib.Omega.{arith}
use mathlib.Core.List.{List}
use mathlib.Core.Bool.{Bool}
use lib.Dec.{T}
use Rattle.std.specs.Prelude.{Option, Some, None}
use Rattle.values.specs.declared.rows.Row.{Row}
use Rattle.values.specs.declared.verdict.Verdict.{Verdict}
use Rattle.values.specs.Answers.{RowRead, RowStored, VerdictOf, verdict}

pub equation_one : {A : Type 0} (right r r' : A) → r ≡ right → r' ≡ right → r ≡ r'
equation_one right r r' e e' = e ∙ sym e'

pub row_stored_one : (row before after after' : List ℕ) (r r' : Bool) → RowStored row before after r → RowStored row before after' r' → (r ≡ r') × (after ≡ after')
row_stored_one row before after after' r r' p p' = (equation_one _ r r' p.answer p'.answer, equation_one _ after after' p.space p'.space)

pub verdict_of_one : (n : ℕ) (r r' : Option Verdict) → VerdictOf n r → VerdictOf n r' → r ≡ r'
verdict_of_one n (Some v) (Some w) p q = ap (λ (k : ℕ). Some (verdict k)) (equation_one n v.0 w.0 p.0 q.0)
verdict_of_one n (Some v) None p q = absurd (omega (arith, p.1, q))
verdict_of_one n None (Some w) p q = absurd (omega (arith, p, q.1))
verdict_of_one n None None p q = refl

pub row_read_one : (S : ℕ) (stored : List ℕ) (r r' : Option Row) → RowRead S stored r → RowRead S stored r' → r ≡ r'
row_read_one S stored (Some a) (Some b) p q = ap (λ (xs : List ℕ). Some (record { values = xs })) (equation_one _ a.values b.values p.1 q.1)
row_read_one S stored (Some a) None p q = absurd (subst T (sym q ∙ p.0) tt)
row_read_one S stored None (Some b) p q = absurd (subst T (sym p ∙ q.0) tt)
row_read_one S stored None None p q = refl
