-- Kinds by their numbers: the bounds of a node's numbers.
use Rattle.std.specs.Prelude.{Option, Some, None}
use Rattle.std.specs.Option.{unwrap_or}
use mathlib.Core.Path.{◌≡◌, refl, sym, ap, ◌∙◌}
use Prim.Native.Nat.{ℕ, zero, suc, ◌≤◌, ◌<◌, max}
use mathlib.Core.Bool.{Bool, true, false, not, true≢false}
use mathlib.Core.Logic.{⊎_elim}
use native.Mathlib.Omega.{arith}
use lib.ListN.{get_or-eq_default}
use lib.Dec.{eqb}
use borrow.Author.Tests.{not-false}
use Rattle.model.specs.Kinds.{KindOf, Use, unused, an_atom, a_node, bound, kind_of, kinds, uses}
use Rattle.model.specs.declared.kinds.Kind.{Kind}
use Rattle.model.specs.declared.kinds.Kind.TheVariants.{True}
use Rattle.values.specs.Limits.{greatest_kind}
use Rattle.lists.specs.Entries.{any_below}
use Rattle.lists.proofs.Numbers.{lt_or_le}
use Rattle.lists.proofs.Search.{any_none}

-- what is no kind uses nothing
no_kind : (k : ℕ) → greatest_kind < k → True ≡ kind_of k
unfolding kind_of
no_kind k h = sym (get_or-eq_default kinds True h)

-- a kind that is read from its number, or true for what is none
pub kind_read : (n : ℕ) (o : Option Kind) (k : Kind) → KindOf n o → k ≡ unwrap_or o True → k ≡ kind_of n
kind_read n (Some x) k h e = e ∙ h.1
kind_read n None k h e = e ∙ no_kind n h

-- a test that computes holds of every kind
pub by_kinds : (P : ℕ → Bool) → any_below (λ (k : ℕ). not (P k)) (suc greatest_kind) ≡ false → (k : ℕ) → k ≤ greatest_kind → P k ≡ true
by_kinds P e k h = not-false _ (any_none (λ (k : ℕ). not (P k)) (suc greatest_kind) e k (omega arith))

-- the uses by numbers, as a test compares them
unfoldable number : Use → ℕ
number unused = 0
number an_atom = 1
number a_node = 2

-- no right number names an atom
pub right_within : (k A i : ℕ) → bound (uses (kind_of k)).1 A i ≤ max 1 i
unfolding kind_of any_below number
right_within k A i =
    ⊎_elim
    (λ (h : k < suc greatest_kind). go (uses (kind_of k)).1 (by_kinds (λ k. not (eqb (number (uses (kind_of k)).1) 1)) refl k (omega arith)))
    (λ (h : suc greatest_kind ≤ k). let e = ap (λ (x : Kind). bound (uses x).1 A i) (no_kind k (omega arith)) in omega arith)
    (lt_or_le k (suc greatest_kind))
  where
    go : (u : Use) → not (eqb (number u) 1) ≡ true → bound u A i ≤ max 1 i
    go unused e = omega arith
    go an_atom e = absurd (true≢false (sym e))
    go a_node e = omega arith

-- what holds of each kind by its number, and of the numbers of none, holds of every number
pub each_kind : (P : ℕ → Type 0) → P 0 → P 1 → P 2 → P 3 → P 4 → P 5 → P 6 → P 7 → P 8 → P 9 → P 10 → P 11 → P 12 → P 13 → ((k : ℕ) → True ≡ kind_of k → P k) → (k : ℕ) → P k
each_kind P a0 a1 a2 a3 a4 a5 a6 a7 a8 a9 a10 a11 a12 a13 none = go
  where
    go : (k : ℕ) → P k
    go zero = a0
    go (suc zero) = a1
    go (suc (suc zero)) = a2
    go (suc (suc (suc zero))) = a3
    go (suc (suc (suc (suc zero)))) = a4
    go (suc (suc (suc (suc (suc zero))))) = a5
    go (suc (suc (suc (suc (suc (suc zero)))))) = a6
    go (suc (suc (suc (suc (suc (suc (suc zero))))))) = a7
    go (suc (suc (suc (suc (suc (suc (suc (suc zero)))))))) = a8
    go (suc (suc (suc (suc (suc (suc (suc (suc (suc zero))))))))) = a9
    go (suc (suc (suc (suc (suc (suc (suc (suc (suc (suc zero)))))))))) = a10
    go (suc (suc (suc (suc (suc (suc (suc (suc (suc (suc (suc zero))))))))))) = a11
    go (suc (suc (suc (suc (suc (suc (suc (suc (suc (suc (suc (suc zero)))))))))))) = a12
    go (suc (suc (suc (suc (suc (suc (suc (suc (suc (suc (suc (suc (suc zero))))))))))))) = a13
    go (suc (suc (suc (suc (suc (suc (suc (suc (suc (suc (suc (suc (suc (suc k)))))))))))))) = none _ (no_kind _ (omega arith))
