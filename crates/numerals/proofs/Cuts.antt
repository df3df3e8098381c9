-- A text cut at a byte: the two parts as a front and a rest of the text; and words that a text begins with or is.
use mathlib.Core.Path.{◌≡◌, refl, sym, ap, ap₂, ◌∙◌}
use Prim.Native.Nat.{ℕ, suc, ◌+◌, ◌≤◌, ◌<◌}
use mathlib.Core.List.{List, [], ◌∷◌}
use mathlib.Core.Bool.{Bool, true, false, cond, not, ◌&&◌, true≢false}
use native.Mathlib.Omega.{arith}
use native.Mathlib.Numerals.{add-one}
use lib.ListN.{length, take, drop}
use lib.Dec.{eqb, ltb}
use lib.Pointwise.{pointwise, pointwise_long}
use lib.Seq.{take_all}
use borrow.Author.Tests.{lt-ltb, le-ltb, eqb-true, eqb-false}
use Rattle.lists.proofs.Numbers.{lt_or_le}
use mathlib.Core.Logic.{⊎_elim}
use Rattle.std.specs.Prelude.{Option, Some, None, option_map, unwrap_or}
use denote.Ref.{Bor}
use Rattle.numerals.specs.Answers.{CutAt}
use Rattle.std.specs.List.{position_or_len}
use Rattle.numerals.specs.Texts.{has, before, behind, begins_with, same}

-- the front up to the byte is what stands before it, the rest past it is what stands behind
pub front_before : (b : ℕ) (xs : List ℕ) → take (length (before b xs)) xs ≡ before b xs
unfolding before
front_before b [] = refl
front_before b (x ∷ xs) = by_test (eqb x b) (front_before b xs)
  where
    by_test : (t : Bool) → take (length (before b xs)) xs ≡ before b xs → take (length (cond t [] (x ∷ before b xs))) (x ∷ xs) ≡ cond t [] (x ∷ before b xs)
    by_test true h = refl
    by_test false h = ap (λ (l : List ℕ). x ∷ l) h

pub rest_behind : (b : ℕ) (xs : List ℕ) → drop (suc (length (before b xs))) xs ≡ behind b xs
unfolding before behind
rest_behind b [] = refl
rest_behind b (x ∷ xs) = by_test (eqb x b) (rest_behind b xs)
  where
    by_test : (t : Bool) → drop (suc (length (before b xs))) xs ≡ behind b xs → drop (suc (length (cond t [] (x ∷ before b xs)))) (x ∷ xs) ≡ cond t xs (behind b xs)
    by_test true h = refl
    by_test false h = h

-- there is such a byte exactly where the front is shorter than the text
pub has_none : (b : ℕ) (xs : List ℕ) → length (before b xs) ≡ length xs → has b xs ≡ false
unfolding before has
has_none b [] e = refl
has_none b (x ∷ xs) e = by_test (eqb x b) refl e (has_none b xs)
  where
    by_test : (t : Bool) → eqb x b ≡ t → length (cond t [] (x ∷ before b xs)) ≡ suc (length xs) → (length (before b xs) ≡ length xs → has b xs ≡ false) → has b (x ∷ xs) ≡ false
    by_test true q e f = absurd (omega arith)
    by_test false q e f = rw q (f (omega arith))

pub has_some : (b : ℕ) (xs : List ℕ) → (length (before b xs) ≡ length xs → ⊥) → has b xs ≡ true
unfolding before has
has_some b [] n = absurd (n refl)
has_some b (x ∷ xs) n = by_test (eqb x b) refl n (has_some b xs)
  where
    by_test : (t : Bool) → eqb x b ≡ t → (length (cond t [] (x ∷ before b xs)) ≡ suc (length xs) → ⊥) → ((length (before b xs) ≡ length xs → ⊥) → has b xs ≡ true) → has b (x ∷ xs) ≡ true
    by_test true q n f = rw q
    by_test false q n f = rw q (f (λ (e : length (before b xs) ≡ length xs). n (ap suc e)))

pub before_short : (b : ℕ) (xs : List ℕ) → length (before b xs) ≤ length xs
unfolding before
before_short b [] = omega arith
before_short b (x ∷ xs) = by_test (eqb x b) (before_short b xs)
  where
    by_test : (t : Bool) → length (before b xs) ≤ length xs → length (cond t [] (x ∷ before b xs)) ≤ suc (length xs)
    by_test true h = omega arith
    by_test false h = omega arith

-- the place of the first such byte, or the length, is how many bytes stand before it
place_before : (b : ℕ) (xs : List ℕ) → position_or_len (λ x. eqb x b) xs ≡ length (before b xs)
unfolding before
place_before b [] = refl
place_before b (x ∷ xs) = by_test (eqb x b) (place_before b xs)
  where
    by_test : (t : Bool) → position_or_len (λ x. eqb x b) xs ≡ length (before b xs) → cond (not t) (1 + position_or_len (λ x. eqb x b) xs) 0 ≡ length (cond t [] (x ∷ before b xs))
    by_test true h = refl
    by_test false h = omega (arith, h)

pub counted_before : (b : ℕ) (xs : List ℕ) (r : Option ℕ) → r ≡ cond (ltb (position_or_len (λ x. eqb x b) xs) (length xs)) (Some (position_or_len (λ x. eqb x b) xs)) None → unwrap_or r (length xs) ≡ length (before b xs)
counted_before b xs r e =
    ⊎_elim
    (λ (h : length (before b xs) < length xs). rw (e, place_before b xs, lt-ltb _ _ h) refl)
    (λ (h : length xs ≤ length (before b xs)). rw (e, place_before b xs, le-ltb _ _ h) (omega (arith, before_short b xs)))
    (lt_or_le (length (before b xs)) (length xs))

-- a text begins with a word if its front is the word, and is the word if each byte of both is
pub begins_is : (word xs : List ℕ) → pointwise eqb (take (length word) xs) word ≡ begins_with word xs
unfolding begins_with
begins_is [] xs = refl
begins_is (w ∷ ws) [] = refl
begins_is (w ∷ ws) (x ∷ xs) = ap (λ (t : Bool). eqb x w && t) (begins_is ws xs)

pub same_is : (word xs : List ℕ) → pointwise eqb xs word ≡ same word xs
unfolding same
same_is word xs = by_length (eqb (length xs) (length word)) refl
  where
    other : (t : Bool) → pointwise eqb xs word ≡ t → (length xs ≡ length word → ⊥) → t ≡ false
    other true p n = absurd (n (pointwise_long eqb xs word p))
    other false p n = refl

    by_length : (t : Bool) → eqb (length xs) (length word) ≡ t → pointwise eqb xs word ≡ (t && begins_with word xs)
    by_length true q =
        ap (λ (l : List ℕ). pointwise eqb l word) (sym (take_all (length word) xs (omega (arith, eqb-true (length xs) (length word) q)))) ∙ begins_is word xs
    by_length false q = other (pointwise eqb xs word) refl (eqb-false (length xs) (length word) q)

-- the same by a count of the bytes before
module _ (b : ℕ) (xs : List ℕ) (place : ℕ) (counted : place ≡ length (before b xs)) where
  pub front_is : take place xs ≡ before b xs
  front_is = rw counted (front_before b xs)

  pub rest_is : drop (place + 1) xs ≡ behind b xs
  rest_is = rw (add-one, counted) (rest_behind b xs)

  pub none_there : place ≡ length xs → has b xs ≡ false
  none_there e = has_none b xs (sym counted ∙ e)

  pub one_there : (place ≡ length xs → ⊥) → has b xs ≡ true
  one_there n = has_some b xs (λ (e : length (before b xs) ≡ length xs). n (counted ∙ e))

  pub place_within : (place ≡ length xs → ⊥) → place < length xs
  place_within n = omega (arith, before_short b xs)

-- any two answers that `split_once` may give are both none, or both the same two parts
abbrev pub parts : Bor (List ℕ) × Bor (List ℕ) → List ℕ × List ℕ
parts p = (p.0.now, p.1.now)

pub cut_one : (b : ℕ) (xs : List ℕ) (r r' : Option (Bor (List ℕ) × Bor (List ℕ))) → CutAt b xs r → CutAt b xs r' → option_map parts r ≡ option_map parts r'
cut_one b xs (Some p) (Some q) c d = ap₂ (λ (x y : List ℕ). Some (x, y)) (c.1 ∙ sym d.1) (c.2 ∙ sym d.2)
cut_one b xs (Some p) None c d = absurd (true≢false (sym c.0 ∙ d))
cut_one b xs None (Some q) c d = absurd (true≢false (sym d.0 ∙ c))
cut_one b xs None None c d = refl
