-- Readers that read exactly what a printer prints: how two of them go together, and each reader of a line.
use Prim.Native.Nat.{ℕ, zero, suc, ◌≤◌}
use mathlib.Core.Path.{◌≡◌, refl, ap, sym, ◌∙◌, subst}
use mathlib.Core.List.{List, [], ◌∷◌, ◌++◌, append_assoc, append-nil}
use mathlib.Core.Bool.{Bool, true, false, cond, ◌&&◌}
use lib.Dec.{leb, eqb}
use borrow.Author.Tests.{eq-eqb, le-leb, leb-true, eqb-true}
use Rattle.lists.proofs.Tests.{and_parts}
use Rattle.values.specs.Signs.{decimal, digits, line_feed, stop_before}
use Rattle.form.specs.Readers.{Reader, on, give, exactly, place_of, number, within, count_line}
use Rattle.form.specs.Readers.Reading.{found, refused}
use Rattle.form.specs.Print.{count_print, Count}
use Rattle.form.proofs.Readings.{found_same, ends_found, refused_found, through}
use Rattle.form.proofs.Decimal.{number_reads, number_back}

-- p reads what pr prints of a good value, whatever follows, and only that
pub record Reads {A : Type 0} (p : Reader A) (pr : A → List ℕ) (Good : A → Type 0) : Type 0 where
  pub reads : (a : A) (t : List ℕ) → Good a → p (pr a ++ t) ≡ found a t
  pub back : (s : List ℕ) (a : A) (rest : List ℕ) → p s ≡ found a rest → (s ≡ pr a ++ rest) × Good a

-- what was read, printed, and then the next reader
pub then : {A B : Type 0} {p : Reader A} {pr : A → List ℕ} {G : A → Type 0} (r : Reads p pr G) (k : A → Reader B) (a : A) (t : List ℕ) → G a → on (p (pr a ++ t)) k ≡ k a t
then r k a t g = ap (λ o. on o k) (r.reads a t g)

-- a reading in two steps that found something: what the first one's text was, and the second after it
pub record Past {A B : Type 0} (pr : A → List ℕ) (G : A → Type 0) (k : A → Reader B) (s : List ℕ) (b : B) (rest : List ℕ) : Type 0 where
  pub value : A
  pub left : List ℕ
  pub text : s ≡ pr value ++ left
  pub good : G value
  pub next : k value left ≡ found b rest

pub past : {A B : Type 0} {p : Reader A} {pr : A → List ℕ} {G : A → Type 0} (r : Reads p pr G) (k : A → Reader B) (s : List ℕ) (b : B) (rest : List ℕ)
    → on (p s) k ≡ found b rest → Past pr G k s b rest
past {p = p} r k s b rest e =
    let x = through (p s) k b rest e in
    let u = r.back s x.value x.left x.first in
    record { value = x.value; left = x.left; text = u.0; good = u.1; next = x.then }

-- one reader and then another, by a value that holds the first one's
pub next : {A B : Type 0} (p : Reader A) (pr : A → List ℕ) (G : A → Type 0) (k : A → Reader B) (prk : A → B → List ℕ) (H : A → B → Type 0) (own : B → A)
    → Reads p pr G → ((a : A) → Reads (k a) (prk a) (H a)) → ((a : A) (b : B) → H a b → own b ≡ a)
    → Reads (λ s. on (p s) k) (λ b. pr (own b) ++ prk (own b) b) (λ b. G (own b) × H (own b) b)
next {A} {B} p pr G k prk H own r q mine = record { reads = there; back = again }
  where
    there : (b : B) (t : List ℕ) → G (own b) × H (own b) b → on (p ((pr (own b) ++ prk (own b) b) ++ t)) k ≡ found b t
    there b t g =
        ap (λ (l : List ℕ). on (p l) k) (append_assoc (pr (own b)) (prk (own b) b) t) ∙ then r k (own b) (prk (own b) b ++ t) g.0 ∙ (q (own b)).reads b t g.1

    again : (s : List ℕ) (b : B) (rest : List ℕ) → on (p s) k ≡ found b rest → (s ≡ (pr (own b) ++ prk (own b) b) ++ rest) × (G (own b) × H (own b) b)
    again s b rest e =
        let x = past r k s b rest e in
        let w = (q x.value).back x.left b rest x.next in
        subst (λ (a : A). (s ≡ (pr a ++ prk a b) ++ rest) × (G a × H a b)) (sym (mine x.value b w.1))
        (x.text ∙ ap (λ (l : List ℕ). pr x.value ++ l) w.0 ∙ sym (append_assoc (pr x.value) (prk x.value b) rest), (x.good, w.1))

-- nothing more, and the value
pub given : {A : Type 0} (v : A) → Reads (give v) (λ b. []) (λ b. b ≡ v)
given v = record { reads = λ b t e. ap (λ x. found x t) (sym e); back = λ s b rest e. ((found_same e).1, sym (found_same e).0) }

-- the same print and the same good values, said otherwise
pub said : {A : Type 0} (p : Reader A) (pr pr' : A → List ℕ) (G G' : A → Type 0) → Reads p pr G → ((a : A) → G a → G' a) → ((a : A) → G' a → G a) → ((a : A) → pr a ≡ pr' a) → Reads p pr' G'
said p pr pr' G G' r to from same =
    record {
      reads = λ a t g. ap (λ (l : List ℕ). p (l ++ t)) (sym (same a)) ∙ r.reads a t (from a g);
      back = λ s a rest e. let w = r.back s a rest e in (w.0 ∙ ap (λ (l : List ℕ). l ++ rest) (same a), to a w.1);
    }

exactly_there : (k t : List ℕ) → exactly k (k ++ t) ≡ found tt t
unfolding exactly
exactly_there [] t = refl
exactly_there (c ∷ k) t = rw (eq-eqb c c refl, exactly) (exactly_there k t)

exactly_back : (k s rest : List ℕ) (u : Unit {0}) → exactly k s ≡ found u rest → s ≡ k ++ rest
unfolding exactly
exactly_back [] s rest u e = (found_same e).1
exactly_back (c ∷ k) [] rest u e = absurd (ends_found e)
exactly_back (c ∷ k) (d ∷ s) rest u e = go (eqb d c) refl (λ f. exactly_back k s rest u f)
  where
    go : (x : Bool) → eqb d c ≡ x → (exactly k s ≡ found u rest → s ≡ k ++ rest) → d ∷ s ≡ c ∷ (k ++ rest)
    go true f later = let q : d ≡ c = eqb-true d c f in rw q (ap (λ (l : List ℕ). c ∷ l) (later (simp (exactly, f) at e)))
    go false f later = absurd (refused_found (simp (exactly, f) at e))

pub exactly_inverse : (k : List ℕ) → Reads (exactly k) (λ u. k) (λ u. Unit {0})
exactly_inverse k = record { reads = λ u t g. exactly_there k t; back = λ s u rest e. (exactly_back k s rest u e, tt) }

number_inverse : (stop : ℕ) → place_of digits stop ≡ 10 → Reads (number stop) (λ n. decimal n ++ (stop ∷ [])) (λ n. n ≤ 65535)
number_inverse stop other =
    record {
      reads = λ n t g. ap (number stop) (append_assoc (decimal n) (stop ∷ []) t) ∙ number_reads stop other n t g;
      back = λ s n rest e. let w = number_back stop s n rest e in (w.0 ∙ sym (append_assoc (decimal n) (stop ∷ []) rest), w.1);
    }

within_inverse : (least most refusal n : ℕ) → Reads (within least most refusal n) (λ m. []) (λ m. (m ≡ n) × ((least ≤ n) × (n ≤ most)))
unfolding within
within_inverse least most refusal n = record { reads = there; back = λ s m rest e. again (leb least n && leb n most) refl s m rest e }
  where
    there : (m : ℕ) (t : List ℕ) → (m ≡ n) × ((least ≤ n) × (n ≤ most)) → cond (leb least n && leb n most) (found n t) (refused refusal) ≡ found m t
    there m t g = simp (le-leb least n g.1.0, le-leb n most g.1.1) (ap (λ (x : ℕ). found x t) (sym g.0))

    again : (x : Bool) → (leb least n && leb n most) ≡ x → (s : List ℕ) (m : ℕ) (rest : List ℕ) → cond (leb least n && leb n most) (found n s) (refused refusal) ≡ found m rest
        → (s ≡ rest) × ((m ≡ n) × ((least ≤ n) × (n ≤ most)))
    again true f s m rest e =
        let p = found_same (simp f at e) in
        let q = and_parts (leb least n) (leb n most) f in
        (p.1, (sym p.0, (leb-true least n q.0, leb-true n most q.1)))
    again false f s m rest e = absurd (refused_found (simp f at e))

feed_apart : place_of digits line_feed ≡ 10
unfolding place_of
feed_apart = refl

pub stop_apart : (w : ℕ) → place_of digits (stop_before w) ≡ 10
unfolding place_of
stop_apart zero = refl
stop_apart (suc w) = refl

pub count_inverse : (k : List ℕ) (least most refusal : ℕ) → Reads (count_line k least most refusal) (count_print k) (Count least most)
unfolding count_line
count_inverse k least most refusal =
    let number-then =
    next (number line_feed) _ _ (within least most refusal) (λ n m. []) _ (λ m. m) (number_inverse line_feed feed_apart) (within_inverse least most refusal) (λ n m g. g.0) in
    said _ _ (count_print k) _ (Count least most)
    (next (exactly k) _ _ (λ u s. on (number line_feed s) (within least most refusal)) (λ u m. (decimal m ++ (line_feed ∷ [])) ++ []) (λ u m. (m ≤ 65535) × ((m ≡ m) × ((least ≤ m) × (m ≤ most)))) (λ m. tt) (exactly_inverse k) (λ u. number-then) (λ u m g. refl))
    (λ m g. record { least = g.1.1.1.0; most = g.1.1.1.1; number = g.1.0 })
    (λ m g. (tt, (g.number, (refl, (g.least, g.most)))))
    (λ m. ap (λ (l : List ℕ). k ++ l) (append-nil (decimal m ++ (line_feed ∷ []))))
