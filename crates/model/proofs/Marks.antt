-- The row of marks: one mark more for each node that names an atom, and what the marks say in the end.
use mathlib.Core.Path.{◌≡◌, refl, sym, ap, ◌∙◌}
use Prim.Native.Nat.{ℕ, ◌+◌, ◌≤◌, ◌<◌}
use mathlib.Core.List.{List}
use mathlib.Core.Bool.{Bool, true, false, not, beq, or-false}
use mathlib.Core.Logic.{⊎_elim}
use native.Mathlib.Omega.{arith}
use lib.ListN.{length, get_or, replicate, set, take}
use lib.Seq.{length-take-le, get_or-set_other}
use Rattle.std.proofs.lemmas.List.{get_or-take}
use Rattle.std.proofs.lemmas.Grind.{common_steps, get_or-set_at}
use Rattle.std.specs.List.{list_any}
use Rattle.lists.proofs.Search.{any_list}
use Rattle.model.specs.Model.{kind_at, left_at, node_count}
use Rattle.model.specs.Kinds.{kind_of}
use Rattle.model.specs.Inside.{Marked, NodesFit}
use Rattle.model.specs.Refusals.{names, unnamed}
use Rattle.lists.specs.Entries.{any_below}
use Rattle.lists.proofs.Numbers.{same_or_not}
use Rattle.lists.proofs.Search.{any_more, any_same, any_zero}
use Rattle.lists.proofs.Tests.{or_right}
use Rattle.model.proofs.Named.{naming, other_atom, other_kind}

module _ (ns : List ℕ) where
  pub unmarked : (n : ℕ) → Marked ns 0 (replicate n false)
  unmarked n = record { each = λ a. none n a ∙ sym (any_zero (names ns a)) }
    where
      none : (n a : ℕ) → get_or (replicate n false) a false ≡ false
      none n a = grind (arith, common_steps)

  -- a node that names nothing more
  same : (a i : ℕ) → names ns a i ≡ false → any_below (names ns a) (i + 1) ≡ any_below (names ns a) i
  same a i e = any_more (names ns a) i (any_below (names ns a) i) false refl e ∙ or-false _

  pub mark_kept : (i : ℕ) (marks : List Bool) → Marked ns i marks → (kind_at ns i ≡ 1 → ⊥) → Marked ns (i + 1) marks
  mark_kept i marks m n = record { each = λ a. m.each a ∙ sym (same a i (other_kind ns a i n)) }

  pub mark_put : (i : ℕ) (marks : List Bool) → Marked ns i marks → kind_at ns i ≡ 1 → left_at ns i < length marks → Marked ns (i + 1) (set marks (left_at ns i) true)
  mark_put i marks m k h =
      record {
        each = λ a.
            ⊎_elim
            (λ (e : a ≡ left_at ns i). get_or-set_at marks (left_at ns i) a true false e h ∙ sym (any_more (names ns a) i (any_below (names ns a) i) true refl (naming ns a i k (sym e)) ∙ or_right (any_below (names ns a) i) true refl))
            (λ (n : a ≡ left_at ns i → ⊥). get_or-set_other marks (left_at ns i) a true false n ∙ m.each a ∙ sym (same a i (other_atom ns a i k (λ q. n (sym q)))))
            (same_or_not a (left_at ns i));
      }

  -- an atom that a node names has its mark within the row
  pub named_fits : (A i : ℕ) → NodesFit A ns → i < node_count ns → kind_at ns i ≡ 1 → left_at ns i < A
  unfolding kind_of
  named_fits A i f l k = f.atoms i l (ap kind_of k)

  pub fits_wider : (A n : ℕ) → A ≤ n → NodesFit A ns → NodesFit n ns
  fits_wider A n h f = record { triples = f.triples; atoms = λ i l k. omega (arith, h, f.atoms i l k) }

  -- what the marks say once all nodes are through
  pub marks_tell : (marks : List Bool) (n : ℕ) → Marked ns (node_count ns) marks → n ≤ length marks → list_any (λ (b : Bool). beq b false) (take n marks) ≡ any_below (unnamed ns) n
  marks_tell marks n m h =
      sym (any_list (λ (b : Bool). beq b false) false (take n marks)) ∙ ap (any_below (λ (a : ℕ). beq (get_or (take n marks) a false) false)) (length-take-le n marks h)
      ∙ any_same (λ (a : ℕ). beq (get_or (take n marks) a false) false) (unnamed ns) n (λ a l. none_left _ ∙ ap not (get_or-take n marks a false l ∙ m.each a))
    where
      none_left : (b : Bool) → beq b false ≡ not b
      none_left true = refl
      none_left false = refl
