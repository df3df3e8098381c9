-- What a text begins with tells the formula's shape: its first signs are no other shape's.
use Prim.Native.Nat.{ℕ, ◌<◌}
use mathlib.Core.Path.{◌≡◌, refl, ap, sym, ◌∙◌}
use mathlib.Core.List.{List, [], ◌∷◌, ◌++◌, append_assoc}
use mathlib.Core.Bool.{cond}
use native.Mathlib.Omega.{arith}
use Rattle.values.specs.Limits.{most_atoms}
use Rattle.values.specs.Signs.{decimal}
use Rattle.formula.specs.Tree.{Prefix, NOT, EX, AX, EF, AF, EG, AG, Pair, AND, EU, AU, OR, IMPLIES, Formula, TRUE, ATOM, one, two, AtomsBelow}
use Rattle.formula.specs.Text.{sign, middle, closing, text_of}
use Rattle.formula.specs.Inside.{begins, Stops, Begins, Bracket, plain, some, every, opened, bracket_of, PairIn, middle_in}
use Rattle.formula.proofs.Operators.{each_prefix, each_pair, each_bracket, opening_opened}

data Shape : Type 0 where
  is_true is_atom is_nothing : Shape
  is_one : Prefix → Shape
  is_two : Bracket → Shape

abbrev shape_of : Formula → Shape
shape_of TRUE = is_true
shape_of (ATOM a) = is_atom
shape_of (one p f) = is_one p
shape_of (two q f g) = is_two (bracket_of q)

-- the first of some signs that a text begins with, or else what is told otherwise
unfoldable first_of : {A : Type 0} → (A → List ℕ) → (A → Shape) → List A → List ℕ → Shape → Shape
first_of sign_of told [] u otherwise = otherwise
first_of sign_of told (a ∷ rest) u otherwise = cond (begins (sign_of a) u) (told a) (first_of sign_of told rest u otherwise)

unfoldable looked_at : List ℕ → Shape
looked_at u =
    cond (begins (84 ∷ []) u) is_true
    (cond (begins (112 ∷ []) u) is_atom
    (first_of sign is_one (NOT ∷ EX ∷ AX ∷ EF ∷ AF ∷ EG ∷ AG ∷ []) u
    (first_of opened is_two (plain ∷ some ∷ every ∷ []) u is_nothing)))

looked_one : (p : Prefix) (v : List ℕ) → looked_at (sign p ++ v) ≡ is_one p
unfolding looked_at first_of
looked_one p v = each_prefix (λ (p : Prefix). looked_at (sign p ++ v) ≡ is_one p) refl refl refl refl refl refl refl p

looked_two : (b : Bracket) (v : List ℕ) → looked_at (opened b ++ v) ≡ is_two b
unfolding looked_at first_of
looked_two b v = each_bracket (λ (b : Bracket). looked_at (opened b ++ v) ≡ is_two b) refl refl refl b

-- the pair of a bracket that the sign between its parts tells
unfoldable joined_at : Bracket → List ℕ → Pair
joined_at plain u = cond (begins (middle AND) u) AND (cond (begins (middle OR) u) OR IMPLIES)
joined_at some u = EU
joined_at every u = AU

joined_own : (q : Pair) (v : List ℕ) → joined_at (bracket_of q) (middle q ++ v) ≡ q
unfolding joined_at
joined_own q v = each_pair (λ (q : Pair). joined_at (bracket_of q) (middle q ++ v) ≡ q) refl refl refl refl refl q

-- one middle sign stands behind a left part at most
pub one_middle : {b : Bracket} (x y : PairIn b) (v w : List ℕ) → middle_in x ++ v ≡ middle_in y ++ w → x.pair ≡ y.pair
one_middle {b} x y v w e =
    sym (joined_own x.pair v) ∙ ap (λ (c : Bracket). joined_at c (middle_in x ++ v)) (x.within ∙ sym y.within) ∙ ap (joined_at (bracket_of y.pair)) e ∙ joined_own y.pair w

pub one_behind : (p : Prefix) (f : Formula) (t : List ℕ) → text_of (one p f) ++ t ≡ sign p ++ (text_of f ++ t)
unfolding text_of
one_behind p f t = append_assoc (sign p) (text_of f) t

pub two_behind : (q : Pair) (f g : Formula) (t : List ℕ) → text_of (two q f g) ++ t ≡ opened (bracket_of q) ++ (text_of f ++ (middle q ++ (text_of g ++ (closing ++ t))))
unfolding text_of
two_behind q f g t =
    ap (λ (x : List ℕ). (x ++ (text_of f ++ (middle q ++ (text_of g ++ closing)))) ++ t) (opening_opened q)
    ∙ append_assoc (opened (bracket_of q)) (text_of f ++ (middle q ++ (text_of g ++ closing))) t
    ∙ ap (λ (x : List ℕ). opened (bracket_of q) ++ x) (append_assoc (text_of f) (middle q ++ (text_of g ++ closing)) t
    ∙ ap (λ (x : List ℕ). text_of f ++ x) (append_assoc (middle q) (text_of g ++ closing) t ∙ ap (λ (x : List ℕ). middle q ++ x) (append_assoc (text_of g) closing t)))

looked_text : (g : Formula) (t : List ℕ) → looked_at (text_of g ++ t) ≡ shape_of g
unfolding looked_at first_of text_of
looked_text TRUE t = refl
looked_text (ATOM a) t = refl
looked_text (one p f) t = ap looked_at (one_behind p f t) ∙ looked_one p (text_of f ++ t)
looked_text (two q f g) t = ap looked_at (two_behind q f g t) ∙ looked_two (bracket_of q) (text_of f ++ (middle q ++ (text_of g ++ (closing ++ t))))

-- two beginnings of one text have one shape
same_shape : (u : List ℕ) (x : Shape) (g : Formula) (t : List ℕ) → looked_at u ≡ x → u ≡ text_of g ++ t → x ≡ shape_of g
same_shape u x g t e h = sym e ∙ ap looked_at h ∙ looked_text g t

pub cancel : (k v w : List ℕ) → k ++ v ≡ k ++ w → v ≡ w
cancel [] v w e = e
cancel (c ∷ k) v w e = let rest : k ++ v ≡ k ++ w = cc in cancel k v w rest

-- a text with a prefix is that of a formula with this prefix
pub record OneOf (p : Prefix) (v : List ℕ) (g : Formula) (t : List ℕ) : Type 0 where
  pub part : Formula
  pub is : g ≡ one p part
  pub begins : Begins v part t

one_from : (p p' : Prefix) (v : List ℕ) (f : Formula) (t : List ℕ) → p' ≡ p → Begins (sign p ++ v) (one p' f) t → OneOf p v (one p' f) t
unfolding AtomsBelow
one_from p p' v f t e b = record {
  part = f;
  is = ap (λ (x : Prefix). one x f) e;
  begins = record {
    named = b.named;
    spelt = cancel (sign p) v (text_of f ++ t) (b.spelt ∙ one_behind p' f t ∙ ap (λ (x : Prefix). sign x ++ (text_of f ++ t)) e);
    stops = b.stops;
  };
}

pub one_of : (p : Prefix) (v : List ℕ) (g : Formula) (t : List ℕ) → Begins (sign p ++ v) g t → OneOf p v g t
one_of p v TRUE t b = let e : is_one p ≡ is_true = same_shape _ _ TRUE t (looked_one p v) b.spelt in absurd (let z : ◌≡◌ {A = ℕ} 0 1 = cc in omega arith)
one_of p v (ATOM a) t b = let e : is_one p ≡ is_atom = same_shape _ _ (ATOM a) t (looked_one p v) b.spelt in absurd (let z : ◌≡◌ {A = ℕ} 0 1 = cc in omega arith)
one_of p v (one p' f) t b = let e : is_one p ≡ is_one p' = same_shape _ _ (one p' f) t (looked_one p v) b.spelt in one_from p p' v f t (let z : p' ≡ p = cc in z) b
one_of p v (two q f g) t b = let e : is_one p ≡ is_two (bracket_of q) = same_shape _ _ (two q f g) t (looked_one p v) b.spelt in absurd (let z : ◌≡◌ {A = ℕ} 0 1 = cc in omega arith)

-- and one with a bracket that of a pair which the bracket begins
pub record TwoOf (b : Bracket) (v : List ℕ) (g : Formula) (t : List ℕ) : Type 0 where
  pub join : PairIn b
  pub left : Formula
  pub right : Formula
  pub is : g ≡ two join.pair left right
  pub first : Begins v left (middle_in join ++ (text_of right ++ (closing ++ t)))
  pub second : Begins (text_of right ++ (closing ++ t)) right (closing ++ t)

pub middle_stops : (q : Pair) (w : List ℕ) → Stops (middle q ++ w)
middle_stops q w = each_pair (λ (q : Pair). Stops (middle q ++ w)) refl refl refl refl refl q

two_from : (b : Bracket) (x : PairIn b) (v : List ℕ) (f g : Formula) (t : List ℕ) → Begins (opened b ++ v) (two x.pair f g) t → TwoOf b v (two x.pair f g) t
unfolding AtomsBelow
two_from b x v f g t h =
    let rest : List ℕ = text_of f ++ (middle_in x ++ (text_of g ++ (closing ++ t))) in
    record {
      join = x;
      left = f;
      right = g;
      is = refl;
      first = record {
        named = h.named.0;
        spelt = cancel (opened b) v rest (h.spelt ∙ two_behind x.pair f g t ∙ ap (λ (c : Bracket). opened c ++ rest) x.within);
        stops = middle_stops x.pair (text_of g ++ (closing ++ t));
      };
      second = record { named = h.named.1; spelt = refl; stops = refl };
    }

pub two_of : (b : Bracket) (v : List ℕ) (g : Formula) (t : List ℕ) → Begins (opened b ++ v) g t → TwoOf b v g t
two_of b v TRUE t h = let e : is_two b ≡ is_true = same_shape _ _ TRUE t (looked_two b v) h.spelt in absurd (let z : ◌≡◌ {A = ℕ} 0 1 = cc in omega arith)
two_of b v (ATOM a) t h = let e : is_two b ≡ is_atom = same_shape _ _ (ATOM a) t (looked_two b v) h.spelt in absurd (let z : ◌≡◌ {A = ℕ} 0 1 = cc in omega arith)
two_of b v (one p f) t h = let e : is_two b ≡ is_one p = same_shape _ _ (one p f) t (looked_two b v) h.spelt in absurd (let z : ◌≡◌ {A = ℕ} 0 1 = cc in omega arith)
two_of b v (two q f g) t h =
    let e : is_two b ≡ is_two (bracket_of q) = same_shape _ _ (two q f g) t (looked_two b v) h.spelt in
    let within : bracket_of q ≡ b = cc in
    two_from b (record { pair = q; within = within }) v f g t h

-- T is that of the constant alone
pub true_of : (v : List ℕ) (g : Formula) (t : List ℕ) → Begins (84 ∷ v) g t → (g ≡ TRUE) × (t ≡ v)
unfolding looked_at first_of text_of
true_of v TRUE t b = (refl, let e : 84 ∷ v ≡ 84 ∷ t = b.spelt in cc)
true_of v (ATOM a) t b = let e : is_true ≡ is_atom = same_shape _ _ (ATOM a) t refl b.spelt in absurd (let z : ◌≡◌ {A = ℕ} 0 1 = cc in omega arith)
true_of v (one p f) t b = let e : is_true ≡ is_one p = same_shape _ _ (one p f) t refl b.spelt in absurd (let z : ◌≡◌ {A = ℕ} 0 1 = cc in omega arith)
true_of v (two q f g) t b = let e : is_true ≡ is_two (bracket_of q) = same_shape _ _ (two q f g) t refl b.spelt in absurd (let z : ◌≡◌ {A = ℕ} 0 1 = cc in omega arith)

-- and p that of an atom
pub record AtomOf (v : List ℕ) (g : Formula) (t : List ℕ) : Type 0 where
  pub number : ℕ
  pub is : g ≡ ATOM number
  pub named : number < most_atoms
  pub spelt : v ≡ decimal number ++ t
  pub stops : Stops t

pub atom_of : (v : List ℕ) (g : Formula) (t : List ℕ) → Begins (112 ∷ v) g t → AtomOf v g t
unfolding looked_at first_of text_of AtomsBelow
atom_of v TRUE t b = let e : is_atom ≡ is_true = same_shape _ _ TRUE t refl b.spelt in absurd (let z : ◌≡◌ {A = ℕ} 0 1 = cc in omega arith)
atom_of v (ATOM a) t b = record { number = a; is = refl; named = b.named; spelt = (let e : 112 ∷ v ≡ 112 ∷ (decimal a ++ t) = b.spelt in cc); stops = b.stops }
atom_of v (one p f) t b = let e : is_atom ≡ is_one p = same_shape _ _ (one p f) t refl b.spelt in absurd (let z : ◌≡◌ {A = ℕ} 0 1 = cc in omega arith)
atom_of v (two q f g) t b = let e : is_atom ≡ is_two (bracket_of q) = same_shape _ _ (two q f g) t refl b.spelt in absurd (let z : ◌≡◌ {A = ℕ} 0 1 = cc in omega arith)
