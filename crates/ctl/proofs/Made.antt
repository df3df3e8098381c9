-- A row made value by value of two rows.
use mathlib.Core.Path.{◌≡◌, refl, sym, ap, subst, ◌∙◌}
use Prim.Native.Nat.{ℕ, zero, suc, ◌+◌, ◌<◌}
use mathlib.Core.List.{List, ◌∷◌}
use mathlib.Core.Logic.{⊎_elim}
use native.Mathlib.Omega.{arith}
use lib.ListN.{length, replicate, set}
use lib.Seq.{get_or-set_other}
use Rattle.std.proofs.lemmas.List.{get_or-set_same}
use Rattle.lists.specs.Entries.{at}
use Rattle.lists.specs.Rows.{Filled, tab}
use Rattle.lists.proofs.Numbers.{last_or_before}
use Rattle.lists.proofs.Rows.{filled_more, filled_none, filled_same, tab_cons}
use Rattle.values.specs.Answers.{verdict}
use Rattle.values.specs.declared.verdict.Verdict.{Verdict}
use Rattle.ctl.specs.Inside.{Made}

module _ (R : Verdict → Verdict → Verdict → Type 0) (left right before : List ℕ) where
  pub made_none : Made R 0 left right before before
  made_none = record { each = λ s h. absurd (omega arith); rest = filled_none _ _ }

  pub made_more : (s : ℕ) (row : List ℕ) (v : Verdict) (n : ℕ) → Made R s left right before row → s < length before → s < length row → n ≡ v.0 → R (verdict (at left s)) (verdict (at right s)) v → Made R (s + 1) left right before (set row s n)
  made_more s row v n m h k q r =
      let now : List ℕ = set row s n in
      let here : at now s ≡ n = get_or-set_same row s n 0 k in
      let kept : (t : ℕ) → t < s → at row t ≡ at now t = λ t l. sym (get_or-set_other row s t n 0 (λ e. omega arith)) in
      record {
        each = λ t l.
            ⊎_elim
            (λ (e : t ≡ s). subst (λ (t : ℕ). R (verdict (at left t)) (verdict (at right t)) (verdict (at now t))) (sym e) (subst (λ (x : ℕ). R (verdict (at left s)) (verdict (at right s)) (verdict x)) (sym q ∙ sym here) r))
            (λ (e : t < s). subst (λ (x : ℕ). R (verdict (at left t)) (verdict (at right t)) (verdict x)) (kept t e) (m.each t e))
            (last_or_before (omega arith));
        rest = filled_more (at now) s before row n (filled_same (at row) (at now) s before row kept m.rest) h (sym here);
      }

  -- by what the values are
  pub made_filled : (g : ℕ → ℕ → ℕ) (S : ℕ) (after : List ℕ) → ((a b r : Verdict) → R a b r → r.0 ≡ g a.0 b.0) → Made R S left right before after → Filled (λ (s : ℕ). g (at left s) (at right s)) S before after
  made_filled g S after h m = filled_same (at after) (λ (s : ℕ). g (at left s) (at right s)) S before after (λ s l. h _ _ _ (m.each s l)) m.rest

-- the same value everywhere
pub all_same : (v n : ℕ) → tab (λ (s : ℕ). v) n ≡ replicate n v
unfolding tab
all_same v zero = refl
all_same v (suc n) = tab_cons (λ (s : ℕ). v) n ∙ ap (λ (xs : List ℕ). v ∷ xs) (all_same v n)
