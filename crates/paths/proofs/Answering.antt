-- From what the private functions found to the promises of First, Next and Check.
use Rattle.paths.specs.declared.Further.TheVariants.{Path, End}
use Rattle.std.specs.Prelude.{Some, None, Ok, Err}
use Rattle.values.specs.Refusal.{number_of}
use Rattle.values.specs.declared.refusal.Refusal.{Refusal}
use Rattle.values.specs.declared.refusal.Refusal.TheVariants.{NotShortest}
use Rattle.values.proofs.Refusing.{number_some, number_tells}
use mathlib.Core.Bool.{true, false}
use Rattle.paths.specs.Answers.{FirstAnswer, NextAnswer}
use mathlib.Core.Path.{◌≡◌, refl, sym, ap, subst}
use Prim.Native.Nat.{ℕ, ◌≤◌, ◌<◌}
use mathlib.Core.List.{List, ◌∷◌}
use native.Mathlib.Omega.{arith}
use lib.ListN.{length, drop, length-drop}
use Rattle.lists.specs.Entries.{at}
use Rattle.lists.specs.Rows.{fill}
use Rattle.lists.specs.Causes.{Applies, Lowest, Rising, refusal_of}
use Rattle.lists.proofs.Causes.{given}
use Rattle.kripke.specs.Walks.{Begins}
use Rattle.paths.specs.Questions.{LeftHolds, Question, RightHolds, Shortest, Witness}
use Rattle.paths.specs.Order.{Beyond, Least}
use Rattle.paths.specs.Refusals.{TooShort, causes, first_causes}
use Rattle.paths.specs.Answers.{CheckPromise, FirstPromise, NextPromise}
use Rattle.paths.specs.Inside.{Down, Far, FirstFound, NextFound}
use Rattle.paths.proofs.Advancing.{down_length}
use Rattle.paths.proofs.Places.{whole}
use Rattle.lists.proofs.Late.{lowest_early, lowest_late, lowest_none}
use Rattle.paths.proofs.Shortests.{down_shortest, first_least, has_distance, next_least, no_witness, none_larger, shortest_down, sound_shortest, witness_down}

pub causes_rise : (q : Question) → Rising 0 (causes q)
causes_rise q = omega arith

pub first_causes_rise : (q : Question) (start : ℕ) → Rising 0 (first_causes q start)
first_causes_rise q start = omega arith

-- refused by the table of causes
pub first_refused : (q : Question) (start : ℕ) (space : List ℕ) (e : Refusal) → refusal_of (first_causes q start) ≡ number_of e → FirstPromise q start space space (Err e)
first_refused q start space e is =
    record {
      number = lowest_early (first_causes q start) (first_causes_rise q start) (λ (k : ℕ). (k ≡ 16) × TooShort q start (length space)) 15 (number_of e) (omega arith) (λ k l. omega (arith, l.0)) (sym is) (number_some e);
      says = record { numbered = number_some e; untouched = refl };
    }

pub next_refused : (q : Question) (path : List ℕ) (e : Refusal) → refusal_of (causes q) ≡ number_of e → NextPromise q path path (Err e)
next_refused q path e is =
    record {
      number = lowest_early (causes q) (causes_rise q) (λ (k : ℕ). (k ≡ 17) × (Shortest q (at path 0) path → ⊥)) 15 (number_of e) (omega arith) (λ k l. omega (arith, l.0)) (sym is) (number_some e);
      says = record { numbered = number_some e; untouched = refl };
    }

check_number : (q : Question) (n : ℕ) → n ≡ refusal_of (causes q) → Lowest (Applies (causes q)) n
check_number q n e = subst (Lowest (Applies (causes q))) (sym e) (given 0 (causes q) (causes_rise q))

pub check_refused : (q : Question) (path : List ℕ) (e : Refusal) → refusal_of (causes q) ≡ number_of e → CheckPromise q path (Err e)
check_refused q path e is = record { number = check_number q (number_of e) (sym is); says = number_some e }

pub check_yes : (q : Question) (path : List ℕ) → refusal_of (causes q) ≡ 0 → Witness q path → CheckPromise q path (Ok true)
check_yes q path z w = record { number = check_number q 0 (sym z); says = w }

pub check_no : (q : Question) (path : List ℕ) → refusal_of (causes q) ≡ 0 → (Witness q path → ⊥) → CheckPromise q path (Ok false)
check_no q path z n = record { number = check_number q 0 (sym z); says = n }

-- First, not refused by the table
module _ (q : Question) (start : ℕ) (space : List ℕ) (fine : refusal_of (first_causes q start) ≡ 0) where
  abbrev Late : ℕ → Type 0
  Late k = (k ≡ 16) × TooShort q start (length space)

  pub first_path_promised : (after : List ℕ) (n : ℕ) (p : List ℕ) → Least (Shortest q start) p → length p ≡ n → n ≤ length space → after ≡ fill p space → FirstPromise q start space after (Ok (Some n))
  first_path_promised after n p l e h is =
      record {
        number = lowest_none (first_causes q start) (first_causes_rise q start) Late fine (λ k t. omega (arith, t.1.shortest.fewest p l.is.begins l.is.witness, t.1.longer));
        says = record { path = p; least = l; size = e; fits = h; space = is };
      }

  pub first_none_promised : ((p : List ℕ) → Begins start p → Witness q p → ⊥) → FirstPromise q start space space (Ok None)
  first_none_promised none =
      record {
        number = lowest_none (first_causes q start) (first_causes_rise q start) Late fine (λ k t. none t.1.path t.1.shortest.begins t.1.shortest.witness);
        says = record { none = none; untouched = refl };
      }

  pub first_found : (d : List ℕ) → Far q.transitions (LeftHolds q) (RightHolds q) q.states start d → (after : List ℕ) (a : FirstAnswer) → FirstFound q.transitions (at d) start space after a → FirstPromise q start space after a
  first_found d far after (Ok (Some n)) f =
      let p = f.2.0 in
      let g = f.2.3 in
      let pos : 0 < at d start = omega (arith, f.0, f.2.1, ap length g.is) in
      first_path_promised after n p (subst (Least (Shortest q start)) (sym g.is) (first_least q start d far g.tail pos g.greedy)) f.2.1 f.1 f.2.2
  first_found d far after (Ok None) f = subst (λ (x : List ℕ). FirstPromise q start space x (Ok None)) (sym f.1) (first_none_promised (no_witness q start d far f.0))
  first_found d far after (Err e) f =
      let s = sound_shortest q start d far f.1 in
      let short : TooShort q start (length space) = record { path = s.0; shortest = s.1; longer = omega (arith, s.2, f.2) } in
      record {
        number = lowest_late (first_causes q start) (first_causes_rise q start) Late (number_of e) fine (omega (arith, f.0)) (f.0, short) (λ k l. omega (arith, f.0, l.0));
        says = record { numbered = omega (arith, f.0); untouched = f.3 };
      }

-- Next, not refused by the table
module _ (q : Question) (path : List ℕ) (fine : refusal_of (causes q) ≡ 0) where
  abbrev Wrong : ℕ → Type 0
  Wrong k = (k ≡ 17) × (Shortest q (at path 0) path → ⊥)

  pub next_wrong : (Shortest q (at path 0) path → ⊥) → NextPromise q path path (Err NotShortest)
  next_wrong n =
      record {
        number = lowest_late (causes q) (causes_rise q) Wrong 17 fine (omega arith) (refl, n) (λ k l. omega (arith, l.0));
        says = record { numbered = omega arith; untouched = refl };
      }

  pub next_path_promised : (after : List ℕ) → Shortest q (at path 0) path → Least (Beyond (Shortest q (at path 0)) path) after → NextPromise q path after (Ok Path)
  next_path_promised after s l = record { number = lowest_none (causes q) (causes_rise q) Wrong fine (λ k w. w.1 s); says = record { lent = s; path = l } }

  pub next_end_promised : Shortest q (at path 0) path → ((p : List ℕ) → Beyond (Shortest q (at path 0)) path p → ⊥) → NextPromise q path path (Ok End)
  next_end_promised s none = record { number = lowest_none (causes q) (causes_rise q) Wrong fine (λ k w. w.1 s); says = record { lent = s; none = none; untouched = refl } }

  module _ (d : List ℕ) (far : Far q.transitions (LeftHolds q) (RightHolds q) q.states (at path 0) d) (w : Witness q path) (some : 0 < length path) where
    pos : 0 < at d (at path 0)
    pos = has_distance q (at path 0) d far path refl w

    wrong_length : (at d (at path 0) ≡ length path → ⊥) → Shortest q (at path 0) path → ⊥
    wrong_length n s =
        let s' : Shortest q (at path 0) (at path 0 ∷ drop 1 path) = subst (Shortest q (at path 0)) (whole path some) s in
        let y = shortest_down q (at path 0) d far (at path 0) (at path 0) (drop 1 path) pos s' in
        n (omega (arith, down_length q.transitions (at d) (at path 0) (drop 1 path) y.1, length-drop 1 path))

    right_length : at d (at path 0) ≡ length path → Down q.transitions (at d) (at path 0) (drop 1 path) × Shortest q (at path 0) path
    right_length e =
        let w' = witness_down q (at path 0) d far path w e in
        (w', subst (Shortest q (at path 0)) (sym (whole path some)) (down_shortest q (at path 0) d far (at path 0) (drop 1 path) w'))

    pub next_found : (after : List ℕ) (a : NextAnswer) → NextFound q.transitions (at d) path after a → NextPromise q path after a
    next_found after (Ok Path) f =
        let r = right_length f.0 in
        let after_is : after ≡ at path 0 ∷ drop 1 after = subst (λ (x : ℕ). after ≡ x ∷ drop 1 after) f.2 (whole after (omega (arith, f.1))) in
        let l = next_least q (at path 0) d far (drop 1 path) (drop 1 after) pos r.0 f.3 in
        next_path_promised after r.1 (subst (λ (x : List ℕ). Least (Beyond (Shortest q (at path 0)) x) after) (sym (whole path some)) (subst (Least (Beyond (Shortest q (at path 0)) (at path 0 ∷ drop 1 path))) (sym after_is) l))
    next_found after (Ok End) f =
        let r = right_length f.0 in
        let n = none_larger q (at path 0) d far (drop 1 path) pos r.0 f.2 in
        subst (λ (x : List ℕ). NextPromise q path x (Ok End)) (sym f.1) (next_end_promised r.1 (subst (λ (x : List ℕ). (p : List ℕ) → Beyond (Shortest q (at path 0)) x p → ⊥) (sym (whole path some)) n))
    next_found after (Err e) f =
        let p = next_wrong (wrong_length f.1) in
        subst (λ (k : Refusal). NextPromise q path after (Err k)) (number_tells NotShortest e (sym f.0)) (subst (λ (x : List ℕ). NextPromise q path x (Err NotShortest)) (sym f.2) p)
