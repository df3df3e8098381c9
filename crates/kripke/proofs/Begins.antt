-- Where a state's transitions begin: what tells the place, and that the successors of s stand from there to where those of s + 1 begin.
use mathlib.Core.Path.{◌≡◌, refl, sym, ap, ◌∙◌}
use Prim.Native.Nat.{ℕ, zero, suc, ◌+◌, ◌*◌, ◌-◌, ◌/◌, ◌≤◌, ◌<◌}
use mathlib.Core.List.{List, [], ◌∷◌}
use mathlib.Core.Bool.{Bool, true, false, cond, ◌&&◌, ◌||◌, true≢false}
use mathlib.Core.Logic.{◌⊎◌, inl, inr, ⊎_elim}
use native.Mathlib.Omega.{arith}
use native.Mathlib.Nat.{eq-or-lt_of_le}
use lib.ListN.{length}
use lib.Dec.{eqb, ltb}
use borrow.Author.Tests.{lt-ltb, le-ltb, eq-eqb, ne_eqb, ltb-true, eqb-true, eqb-false}
use Rattle.kripke.specs.Transitions.{Ascending, count, ends, first_out, from, succs, to}
use Rattle.lists.specs.Entries.{All, Some, at, is_nil}
use Rattle.lists.proofs.Entries.{nil_of}
use Rattle.lists.proofs.Numbers.{lt_or_le}

-- the transitions behind the first one
pub from_tail : (f t : ℕ) (es : List ℕ) (k : ℕ) → from (f ∷ t ∷ es) (suc k) ≡ from es k
from_tail f t es k = let e : 2 * suc k ≡ suc (suc (2 * k)) = omega arith in ap (at (f ∷ t ∷ es)) e

pub to_tail : (f t : ℕ) (es : List ℕ) (k : ℕ) → to (f ∷ t ∷ es) (suc k) ≡ to es k
to_tail f t es k = let e : 2 * suc k + 1 ≡ suc (suc (2 * k + 1)) = omega arith in ap (at (f ∷ t ∷ es)) e

-- the place is told by what stands there: before it only transitions from earlier states, at it one from s or a later state, or none
pub first_is : (es : List ℕ) (s k : ℕ) → k ≤ count es → ((j : ℕ) → j < k → from es j < s) → (k < count es → s ≤ from es k) → k ≡ first_out es s
unfolding first_out
first_is [] s k h before here = omega arith
first_is (f ∷ []) s k h before here = omega arith
first_is (f ∷ t ∷ es) s zero h before here = rw (le-ltb f s (here (omega arith)))
first_is (f ∷ t ∷ es) s (suc k) h before here =
    rw (lt-ltb f s (before 0 (omega arith)))
    (ap suc (first_is es s k (omega arith) (λ j l. rw (from_tail f t es j) at (before (suc j) (omega arith))) (λ l. rw (from_tail f t es k) at (here (omega arith)))))

pub first_within : (es : List ℕ) (s : ℕ) → first_out es s ≤ count es
unfolding first_out
first_within [] s = omega arith
first_within (f ∷ []) s = omega arith
first_within (f ∷ t ∷ es) s = go (ltb f s) (first_within es s)
  where
    go : (b : Bool) → first_out es s ≤ count es → cond b (suc (first_out es s)) 0 ≤ suc (suc (length es)) / 2
    go true h = omega arith
    go false h = omega arith

-- ascending lists, by their pairs
pub froms_rise : (es : List ℕ) → Ascending es → (k : ℕ) → suc k < count es → from es k ≤ from es (suc k)
froms_rise es asc k h = go (ltb f g) (eqb f g) refl refl (asc k h)
  where
    f : ℕ
    f = from es k

    g : ℕ
    g = from es (suc k)

    go : (x y : Bool) → ltb f g ≡ x → eqb f g ≡ y → (x || (y && ltb (to es k) (to es (suc k)))) ≡ true → f ≤ g
    go true y p q r = omega (arith, ltb-true f g p)
    go false true p q r = omega (arith, eqb-true f g q)
    go false false p q r = absurd (true≢false (sym r))

pub ascending_tail : (f t : ℕ) (es : List ℕ) → Ascending (f ∷ t ∷ es) → Ascending es
ascending_tail f t es asc k h = rw (from_tail f t es k, from_tail f t es (suc k), to_tail f t es k, to_tail f t es (suc k)) at (asc (suc k) (omega arith))

-- behind a transition from s or a later state there is none from an earlier one
first_zero : (f t : ℕ) (es : List ℕ) (s : ℕ) → Ascending (f ∷ t ∷ es) → s ≤ f → first_out es s ≡ 0
unfolding first_out
first_zero f t [] s asc h = refl
first_zero f t (g ∷ []) s asc h = refl
first_zero f t (g ∷ u ∷ es) s asc h = rw (le-ltb g s (omega (arith, froms_rise (f ∷ t ∷ g ∷ u ∷ es) asc 0 (omega arith))))

ends_tail : (f t : ℕ) (es : List ℕ) (k n : ℕ) → ends (f ∷ t ∷ es) (suc k) n ≡ ends es k n
unfolding ends
ends_tail f t es k zero = refl
ends_tail f t es k (suc n) = cc (to_tail f t es k, ends_tail f t es (suc k) n)

-- the successors of s stand from where its transitions begin to where those of s + 1 begin
pub succs_ends : (es : List ℕ) (s : ℕ) → Ascending es → succs es s ≡ ends es (first_out es s) (first_out es (s + 1) - first_out es s)
unfolding succs first_out ends
succs_ends [] s asc = refl
succs_ends (f ∷ []) s asc = refl
succs_ends (f ∷ t ∷ es) s asc =
    let a : ℕ = first_out es s in
    let b : ℕ = first_out es (s + 1) in
    let later : succs es s ≡ ends es a (b - a) = succs_ends es s (ascending_tail f t es asc) in
    let same : b - a ≡ suc b - suc a = omega arith in
    let whole : b - 0 ≡ b = omega arith in
    let more : suc b ≡ suc b - 0 = omega arith in
    ⊎_elim
    (λ (l : f < s).
    rw (ne_eqb f s (λ e. omega arith), lt-ltb f s l, lt-ltb f (s + 1) (omega arith)) (later ∙ sym (ends_tail f t es a (b - a)) ∙ ap (ends (f ∷ t ∷ es) (suc a)) same))
    (λ (l : s ≤ f).
    let zero_a : a ≡ 0 = first_zero f t es s asc l in
    ⊎_elim
    (λ (e : s ≡ f).
    rw (eq-eqb f s (sym e), le-ltb f s l, lt-ltb f (s + 1) (omega arith))
    (ap (λ (r : List ℕ). t ∷ r) (later ∙ ap (λ (j : ℕ). ends es j (b - j)) zero_a ∙ ap (ends es 0) whole ∙ sym (ends_tail f t es 0 b)) ∙ ap (ends (f ∷ t ∷ es) 0) more))
    (λ (g : s < f).
    rw (ne_eqb f s (λ e. omega arith), le-ltb f s l, le-ltb f (s + 1) (omega arith)) (later ∙ ap (λ (j : ℕ). ends es a (j - a)) (first_zero f t es (s + 1) asc (omega arith)) ∙ ap (λ (j : ℕ). ends es j (0 - j)) zero_a))
    (eq-or-lt_of_le l))
    (lt_or_le f s)

-- a list of n ends is empty exactly if n is 0
ends_nil : (es : List ℕ) (k n : ℕ) → is_nil (ends es k n) ≡ eqb n 0
unfolding ends
ends_nil es k zero = refl
ends_nil es k (suc n) = sym (ne_eqb (suc n) 0 (λ e. omega arith))

pub first_rises : (es : List ℕ) (s : ℕ) → Ascending es → first_out es s ≤ first_out es (s + 1)
unfolding first_out
first_rises [] s asc = omega arith
first_rises (f ∷ []) s asc = omega arith
first_rises (f ∷ t ∷ es) s asc = go (first_rises es s (ascending_tail f t es asc)) (lt_or_le f s)
  where
    go : first_out es s ≤ first_out es (s + 1) → (f < s) ⊎ (s ≤ f) → cond (ltb f s) (suc (first_out es s)) 0 ≤ cond (ltb f (s + 1)) (suc (first_out es (s + 1))) 0
    go later (inl l) = rw (lt-ltb f s l, lt-ltb f (s + 1) (omega arith)) (omega arith)
    go later (inr l) = rw (le-ltb f s l) (omega arith)

-- a state has no successor exactly if its transitions end where they begin
pub stuck_at : (es : List ℕ) (s : ℕ) → Ascending es → is_nil (succs es s) ≡ eqb (first_out es s) (first_out es (s + 1))
stuck_at es s asc =
    let a : ℕ = first_out es s in
    let b : ℕ = first_out es (s + 1) in
    let rises : a ≤ b = first_rises es s asc in
    ap is_nil (succs_ends es s asc) ∙ ends_nil es a (b - a)
    ∙ ⊎_elim (λ (e : a ≡ b). eq-eqb (b - a) 0 (omega arith) ∙ sym (eq-eqb a b e)) (λ (l : a < b). ne_eqb (b - a) 0 (λ e. omega arith) ∙ sym (ne_eqb a b (λ e. omega arith))) (eq-or-lt_of_le rises)

-- a state with a successor has its transitions before those of the next state
pub first_less : (es : List ℕ) (s : ℕ) → Ascending es → Some (succs es s) → first_out es s < first_out es (s + 1)
first_less es s asc some =
    let apart = eqb-false (first_out es s) (first_out es (s + 1)) (sym (stuck_at es s asc) ∙ nil_of (succs es s) some) in
    omega (arith, first_rises es s asc)

-- behind the last state stands the number of transitions
pub first_all : (es : List ℕ) (S : ℕ) → All (λ (t : ℕ). t < S) es → first_out es S ≡ count es
unfolding first_out
first_all [] S a = omega arith
first_all (f ∷ []) S a = omega arith
first_all (f ∷ t ∷ es) S a = rw (lt-ltb f S a.0) (omega (arith, first_all es S a.1.1))
