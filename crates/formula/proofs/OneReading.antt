-- A text begins with one formula at most: part by part, and for the text of every formula.
use Prim.Native.Nat.{ℕ, ◌<◌}
use mathlib.Core.Path.{◌≡◌, refl, ap, sym, ◌∙◌, subst}
use mathlib.Core.List.{List, [], ◌∷◌, ◌++◌, append-nil}
use mathlib.Core.Bool.{true, false, true≢false}
use native.Mathlib.Omega.{arith}
use Rattle.values.specs.Limits.{most_atoms}
use Rattle.values.specs.Signs.{decimal}
use Rattle.formula.specs.Tree.{Prefix, Pair, Formula, TRUE, ATOM, one, two, Named, AtomsBelow}
use Rattle.formula.specs.Text.{sign, middle, closing, text_of}
use Rattle.formula.specs.Inside.{begins, Stops, Bracket, opened, bracket_of, PairIn, middle_in, Begins, Only, NoneOf, Any, Term, Leaf}
use Rattle.formula.proofs.Numbers.{said, decimal_says, cut_once}
use Rattle.formula.proofs.Beginnings.{begins_own}
use Rattle.formula.proofs.Shapes.{one_of, TwoOf, two_of, one_middle, true_of, atom_of, one_behind, two_behind, middle_stops, cancel}

pub only_true : (r : List ℕ) → Only (84 ∷ r) TRUE r
only_true r g t b = true_of r g t b

pub only_atom : (a : ℕ) (r : List ℕ) → a < most_atoms → Stops r → Only (112 ∷ (decimal a ++ r)) (ATOM a) r
only_atom a r h q g t b =
    let o = atom_of (decimal a ++ r) g t b in
    let x = decimal_says a (omega (arith, h)) in
    let y = decimal_says o.number (omega (arith, o.named)) in
    let c = cut_once (decimal o.number) (decimal a) t r y.each x.each o.stops q (sym o.spelt) in
    let n : o.number ≡ a = sym y.value ∙ ap (said 0) c.0 ∙ x.value in
    (o.is ∙ ap ATOM n, c.1)

pub only_one : (p : Prefix) (v : List ℕ) (f : Formula) (r : List ℕ) → Only v f r → Only (sign p ++ v) (one p f) r
only_one p v f r h g t b =
    let o = one_of p v g t b in
    let w = h o.part t o.begins in
    (o.is ∙ ap (one p) w.0, w.1)

module _ (b : Bracket) (v : List ℕ) where
  -- what stands behind the left part of a pair is known by the only formula there
  module _ (f : Formula) (w : List ℕ) (h : Only v f w) where
    behind : (g : Formula) (t : List ℕ) (o : TwoOf b v g t) → (o.left ≡ f) × (middle_in o.join ++ (text_of o.right ++ (closing ++ t)) ≡ w)
    behind g t o = h o.left (middle_in o.join ++ (text_of o.right ++ (closing ++ t))) o.first

    pub none_middle : ((x : PairIn b) → begins (middle_in x) w ≡ false) → NoneOf Term (opened b ++ v)
    none_middle e g t k h =
        let o = two_of b v g t h in
        true≢false (sym (begins_own (middle_in o.join) (text_of o.right ++ (closing ++ t))) ∙ ap (begins (middle_in o.join)) (behind g t o).1 ∙ e o.join)

  -- behind the sign in the middle, by the only formula on the left
  module _ (f : Formula) (x : PairIn b) (w : List ℕ) (h : Only v f (middle_in x ++ w)) where
    join_told : (g : Formula) (t : List ℕ) (o : TwoOf b v g t) → o.join.pair ≡ x.pair
    join_told g t o = one_middle o.join x (text_of o.right ++ (closing ++ t)) w (behind f (middle_in x ++ w) h g t o).1

    rest : (g : Formula) (t : List ℕ) (o : TwoOf b v g t) → text_of o.right ++ (closing ++ t) ≡ w
    rest g t o =
        let right = text_of o.right ++ (closing ++ t) in
        cancel (middle_in x) right w (ap (λ (q : Pair). middle q ++ right) (sym (join_told g t o)) ∙ (behind f (middle_in x ++ w) h g t o).1)

    right_begins : (g : Formula) (t : List ℕ) (o : TwoOf b v g t) → Begins w o.right (closing ++ t)
    right_begins g t o = subst (λ (x : List ℕ). Begins x o.right (closing ++ t)) (rest g t o) o.second

    pub none_second : NoneOf Any w → NoneOf Term (opened b ++ v)
    none_second n g t k h = let o = two_of b v g t h in n o.right (closing ++ t) tt (right_begins g t o)

    pub none_closing : (g : Formula) (r : List ℕ) → Only w g r → begins closing r ≡ false → NoneOf Term (opened b ++ v)
    none_closing g' r n e g t k h =
        let o = two_of b v g t h in
        let c = n o.right (closing ++ t) (right_begins g t o) in
        true≢false (sym (begins_own closing t) ∙ ap (begins closing) c.1 ∙ e)

    pub only_two : (g : Formula) (r : List ℕ) → Only w g (closing ++ r) → Only (opened b ++ v) (two x.pair f g) r
    only_two g' r n g t h' =
        let o = two_of b v g t h' in
        let c = n o.right (closing ++ t) (right_begins g t o) in
        (o.is ∙ cc (join_told g t o, (behind f (middle_in x ++ w) h g t o).0, c.0), cancel closing t r c.1)

  pub none_first : NoneOf Any v → NoneOf Term (opened b ++ v)
  none_first n g t k h = let o = two_of b v g t h in n o.left (middle_in o.join ++ (text_of o.right ++ (closing ++ t))) tt o.first

pub none_one : (p : Prefix) (v : List ℕ) → NoneOf Any v → NoneOf Any (sign p ++ v)
none_one p v n g t k b = let o = one_of p v g t b in n o.part t tt o.begins

-- no sign of a sort, no formula of it
pub none_atom : (v : List ℕ) → ((a : ℕ) (t : List ℕ) → a < most_atoms → Stops t → v ≡ decimal a ++ t → ⊥) → NoneOf Leaf (112 ∷ v)
none_atom v n g t k b = let o = atom_of v g t b in n o.number t o.named o.stops o.spelt

begun : (k v u : List ℕ) → u ≡ k ++ v → begins k u ≡ true
begun k v u e = ap (begins k) e ∙ begins_own k v

pub none_leaf : (u : List ℕ) → begins (84 ∷ []) u ≡ false → begins (112 ∷ []) u ≡ false → NoneOf Leaf u
unfolding text_of
none_leaf u x y TRUE t k b = true≢false (sym (begun (84 ∷ []) t u b.spelt) ∙ x)
none_leaf u x y (ATOM a) t k b = true≢false (sym (begun (112 ∷ []) (decimal a ++ t) u b.spelt) ∙ y)
none_leaf u x y (one p f) t k b = absurd k
none_leaf u x y (two q f g) t k b = absurd k

pub none_term : (u : List ℕ) → ((b : Bracket) → begins (opened b) u ≡ false) → NoneOf Leaf u → NoneOf Term u
none_term u x n TRUE t k b = n TRUE t tt b
none_term u x n (ATOM a) t k b = n (ATOM a) t tt b
none_term u x n (one p f) t k b = absurd k
none_term u x n (two q f g) t k b = true≢false (sym (begun (opened (bracket_of q)) _ u (b.spelt ∙ two_behind q f g t)) ∙ x (bracket_of q))

pub none_any : (u : List ℕ) → ((p : Prefix) → begins (sign p) u ≡ false) → NoneOf Term u → NoneOf Any u
none_any u x n TRUE t k b = n TRUE t tt b
none_any u x n (ATOM a) t k b = n (ATOM a) t tt b
none_any u x n (one p f) t k b = true≢false (sym (begun (sign p) _ u (b.spelt ∙ one_behind p f t)) ∙ x p)
none_any u x n (two q f g) t k b = n (two q f g) t tt b

-- the text of a formula begins with that formula alone, whatever stands behind it but a digit
pub only_text : (f : Formula) (r : List ℕ) → Named f → Stops r → Only (text_of f ++ r) f r
unfolding text_of AtomsBelow
only_text TRUE r n q = only_true r
only_text (ATOM a) r n q = only_atom a r n q
only_text (one p f) r n q = subst (λ (x : List ℕ). Only x (one p f) r) (sym (one_behind p f r)) (only_one p (text_of f ++ r) f r (only_text f r n q))
only_text (two k f g) r n q =
    let w : List ℕ = text_of g ++ (closing ++ r) in
    subst (λ (x : List ℕ). Only x (two k f g) r) (sym (two_behind k f g r))
    (only_two (bracket_of k) (text_of f ++ (middle k ++ w)) f (record { pair = k; within = refl }) w (only_text f (middle k ++ w) n.0 (middle_stops k w)) g r (only_text g (closing ++ r) n.1 refl))

-- two formulas with the same text are one
pub one_text : (f g : Formula) → Named f → Named g → text_of f ≡ text_of g → f ≡ g
one_text f g n m e =
    sym (only_text f [] n tt g [] (record { named = m; spelt = append-nil (text_of f) ∙ e ∙ sym (append-nil (text_of g)); stops = tt })).0
