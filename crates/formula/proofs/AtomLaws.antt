-- The loop that reads an atom's number: digits so far, and why each way out is right.
use Prim.Native.Nat.{ℕ, zero, suc, ◌+◌, ◌-◌, ◌*◌, ◌≤◌, ◌<◌}
use mathlib.Core.Path.{◌≡◌, refl, ap, sym, ◌∙◌, subst, subst₂}
use mathlib.Core.List.{List, [], ◌∷◌, ◌++◌, append_assoc}
use mathlib.Core.Bool.{false}
use native.Mathlib.Numerals.{add-one}
use native.Mathlib.Omega.{arith}
use lib.ListN.{length, drop, drop_of_length-le}
use lib.Seq.{drop-cons}
use Rattle.lists.specs.Entries.{at}
use Rattle.values.specs.Limits.{most_atoms}
use Rattle.values.specs.Signs.{decimal}
use Rattle.std.specs.Prelude.{Option, Some, None}
use Rattle.formula.specs.declared.atoms.Atom.{Atom}
use Rattle.formula.specs.Inside.{is_digit, IsDigit, Stops, EndedAt, NoAtom, AtomFound, AtomAt}
use Rattle.values.proofs.Decimals.{decimal_digit, decimal_grown}
use Rattle.formula.proofs.Numbers.{Digits, said, said_append, said_more, digit_is, one_more, Says, decimal_says, cut_once, GoesOn, goes_on}

-- up to i stand the digits of a number
pub record Digested (s : List ℕ) (i a : ℕ) : Type 0 where
  pub some : 0 < i
  pub inside : i ≤ length s
  pub ds : List ℕ
  pub each : Digits ds
  pub value : said 0 ds ≡ a
  pub lead : a ≤ 65535 → ds ≡ decimal a
  pub spelt : s ≡ ds ++ drop i s
  pub small : a < most_atoms * 10 + 10

pub digested_first : (s : List ℕ) (d : ℕ) → 0 < length s → IsDigit (at s 0) d → Digested s 1 d
unfolding said
digested_first s d h g =
    record {
      some = omega arith;
      inside = omega arith;
      ds = (48 + d) ∷ [];
      each = (digit_is d g.small, tt);
      value = omega arith;
      lead = λ b. sym (decimal_digit d g.small);
      spelt = drop-cons s 0 0 h ∙ ap (λ (x : ℕ). x ∷ drop 1 s) g.byte;
      small = omega (arith, g.small);
    }

module _ (s : List ℕ) (i a d : ℕ) (so : Digested s i a) (there : i < length s) (g : IsDigit (at s i) d) where
  next_byte : drop i s ≡ at s i ∷ drop (i + 1) s
  next_byte = drop-cons s i 0 there ∙ ap (λ (n : ℕ). at s i ∷ drop n s) (sym (add-one i))

  pub digested_more : (a ≡ 0 → ⊥) → a < most_atoms → Digested s (i + 1) (a * 10 + d)
  unfolding said
  digested_more p m =
      record {
        some = omega arith;
        inside = omega arith;
        ds = so.ds ++ ((48 + d) ∷ []);
        each = one_more so.ds (48 + d) so.each (digit_is d g.small);
        value = said_append 0 so.ds ((48 + d) ∷ []) ∙ ap (λ (v : ℕ). v * 10 + (48 + d - 48)) so.value ∙ (let z : a * 10 + (48 + d - 48) ≡ a * 10 + d = omega arith in z);
        lead = λ b. ap (λ (x : List ℕ). x ++ ((48 + d) ∷ [])) (so.lead (omega arith)) ∙ sym (decimal_grown a d (omega (arith, p)) g.small b);
        spelt = so.spelt ∙ ap (λ (x : List ℕ). so.ds ++ x) (next_byte ∙ ap (λ (x : ℕ). x ∷ drop (i + 1) s) g.byte) ∙ sym (append_assoc so.ds ((48 + d) ∷ []) (drop (i + 1) s));
        small = omega (arith, g.small);
      }

  -- another digit behind a 0, or behind a number that is too great already
  longer : (b : ℕ) (t : List ℕ) → Stops t → s ≡ decimal b ++ t → GoesOn so.ds (at s i) (decimal b)
  longer b t q e =
      goes_on (decimal b) t so.ds (at s i) (drop (i + 1) s) so.each g.test q
      (sym e ∙ so.spelt ∙ ap (λ (x : List ℕ). so.ds ++ x) next_byte)

  pub zero_led : a ≡ 0 → NoAtom s
  zero_led z b t m q e =
      let l = longer b t q e in
      let w = decimal_says b (omega (arith, m)) in
      let f : so.ds ≡ 48 ∷ [] = so.lead (omega (arith, z)) ∙ ap decimal z ∙ decimal_digit 0 (omega arith) in
      let o : decimal b ≡ 48 ∷ at s i ∷ l.behind = l.on ∙ ap (λ (x : List ℕ). x ++ (at s i ∷ l.behind)) f in
      go b refl w o
    where
      go : (n : ℕ) → b ≡ n → Says b (decimal b) → {c : ℕ} {r : List ℕ} → decimal b ≡ 48 ∷ c ∷ r → ⊥
      go zero z w {c} {r} o =
          let l : length (decimal b) ≡ 1 = ap (λ (n : ℕ). length (decimal n)) z ∙ ap length (decimal_digit 0 (omega arith)) in
          let l' : length (decimal b) ≡ suc (suc (length r)) = ap length o in
          omega (arith, l, l')
      go (suc n) z w o = w.lead (omega (arith, z)) (ap (λ (x : List ℕ). at x 0) o)

  pub too_great : most_atoms ≤ a → NoAtom s
  too_great h b t m q e =
      let l = longer b t q e in
      let v : said 0 (decimal b) ≡ b = (decimal_says b (omega (arith, m))).value in
      let u : said 0 (decimal b) ≡ said (said 0 so.ds) (at s i ∷ l.behind) = ap (said 0) l.on ∙ said_append 0 so.ds (at s i ∷ l.behind) in
      let w = said_more (said 0 so.ds) (at s i ∷ l.behind) in
      omega (arith, v, u, w, so.value)

-- a number that has ended
pub digested_ended : (s : List ℕ) (i a : ℕ) → Digested s i a → Stops (drop i s) → (r : Option Atom) → EndedAt a i r → AtomAt s r
digested_ended s i a so q (Some x) h = subst₂ (AtomFound s) (sym h.0) (sym h.1) (record {
  named = h.2;
  some = so.some;
  inside = so.inside;
  spelt = so.spelt ∙ ap (λ (x : List ℕ). x ++ drop i s) (so.lead (omega (arith, h.2)));
  stops = q;
})
digested_ended s i a so q None h = λ b v m z f.
    let w = decimal_says b (omega (arith, m)) in
    let c = cut_once (decimal b) so.ds v (drop i s) w.each so.each z q (sym f ∙ so.spelt) in
    let k : said 0 (decimal b) ≡ said 0 so.ds = ap (said 0) c.0 in
    omega (arith, k, w.value, so.value, h, m)

pub stops_at : (s : List ℕ) (i : ℕ) → i < length s → is_digit (at s i) ≡ false → Stops (drop i s)
stops_at s i h e = subst Stops (sym (drop-cons s i 0 h)) e

pub stops_end : (s : List ℕ) (i : ℕ) → length s ≤ i → Stops (drop i s)
stops_end s i h = subst Stops (sym (drop_of_length-le s h)) tt

-- no digit at all
pub no_number : (s : List ℕ) → Stops s → NoAtom s
no_number s q b t m z f =
    let w = decimal_says b (omega (arith, m)) in
    let c = cut_once [] (decimal b) s t tt w.each q z f in
    let l : 0 ≡ length (decimal b) = ap length c.0 in
    omega (arith, l, w.some)
