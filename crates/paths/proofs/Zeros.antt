-- A row that is 0 from some place on: its front, and zeros.
use mathlib.Core.Path.{◌≡◌, sym, ap, ◌∙◌}
use Prim.Native.Nat.{ℕ, zero, suc, ◌+◌, ◌-◌, ◌≤◌}
use mathlib.Core.List.{List, [], ◌∷◌, ◌++◌, append_assoc}
use mathlib.Core.Bool.{cond, ◌||◌}
use native.Mathlib.Omega.{arith}
use lib.ListN.{length, replicate}
use lib.Dec.{ltb}
use borrow.Author.Tests.{le-leb}
use Rattle.std.proofs.lemmas.List.{append-nil, drop_all, replicate_more}
use Rattle.lists.specs.Rows.{Filled, tab}
use Rattle.lists.proofs.Rows.{drop_replicate}
use Rattle.paths.specs.Inside.{at_once}

tab_zeros : (f : ℕ → ℕ) (n k : ℕ) → ((s : ℕ) → n ≤ s → f s ≡ 0) → tab f (n + k) ≡ tab f n ++ replicate k 0
unfolding tab
tab_zeros f n zero z = let e : n + 0 ≡ n = omega arith in ap (tab f) e ∙ sym (append-nil (tab f n))
tab_zeros f n (suc k) z =
    let e : n + suc k ≡ suc (n + k) = omega arith in
    let m : k + 1 ≡ suc k = omega arith in
    ap (tab f) e
    ∙ ap (λ (x : ℕ). tab f (n + k) ++ (x ∷ [])) (z (n + k) (omega arith))
    ∙ ap (λ (xs : List ℕ). xs ++ (0 ∷ [])) (tab_zeros f n k z)
    ∙ append_assoc (tab f n) (replicate k 0) (0 ∷ [])
    ∙ ap (λ (xs : List ℕ). tab f n ++ xs) (replicate_more k 0)
    ∙ ap (λ (i : ℕ). tab f n ++ replicate i 0) m

-- zeros filled so far as the row isn't 0 are filled with it to their end
pub filled_zeros : (f : ℕ → ℕ) (s n : ℕ) (old now : List ℕ) → ((t : ℕ) → s ≤ t → f t ≡ 0) → s ≤ n → length old ≡ n → Filled f s (replicate n 0) now → Filled f (length old) old now
filled_zeros f s n old now z h long e =
    let whole : s + (n - s) ≡ n = omega (arith, h) in
    e
    ∙ ap (λ (xs : List ℕ). tab f s ++ xs) (drop_replicate s n 0)
    ∙ sym (tab_zeros f s (n - s) z)
    ∙ ap (tab f) whole
    ∙ ap (tab f) (sym long)
    ∙ sym (append-nil (tab f (length old)))
    ∙ ap (λ (xs : List ℕ). tab f (length old) ++ xs) (sym (drop_all (length old) old (omega arith)))

-- no state has a witness of one entry but those that there are
pub at_once_none : (S : ℕ) (right : ℕ → ℕ) (level s : ℕ) → S ≤ s → at_once S right level s ≡ 0
unfolding at_once
at_once_none S right level s h = ap (λ b. cond (b || ltb (right s) level) 0 1) (le-leb S s h)
