-- The first successor that fits is the smallest: the successors of a state ascend.
use mathlib.Core.Path.{◌≡◌, refl, sym, ap, ◌∙◌, subst}
use Prim.Native.Nat.{ℕ, ◌≤◌, ◌<◌}
use mathlib.Core.List.Memᴰ
use mathlib.Core.List.{List, [], ◌∷◌, Memᴰ}
use mathlib.Core.Bool.{Bool, true, false, cond, ◌&&◌, ◌||◌, true≢false}
use mathlib.Core.Logic.{◌⊎◌, inl, inr}
use native.Mathlib.Omega.{arith}
use lib.Dec.{eqb, leb, ltb}
use borrow.Author.Tests.{eqb-true, leb-true, le-leb, eq-eqb, ltb-true}
use Rattle.std.specs.Prelude.{Option, Some, None}
use Rattle.lists.specs.Entries.{at, All}
use Rattle.lists.proofs.Entries.{all_member}
use Rattle.lists.proofs.Tests.{and_both, and_parts}
use Rattle.kripke.specs.Transitions.{Ascending, Edge, Graph, succs}
use Rattle.kripke.proofs.Begins.{ascending_tail}
use Rattle.kripke.proofs.Successors.{edge_succ, succ_edge}
use Rattle.paths.specs.Inside.{first_fit}

some_one : {t u : ℕ} → ◌≡◌ {A = Option ℕ} (Some t) (Some u) → t ≡ u
some_one e = cc

-- each entry is below all later ones
abbrev pub Rises : List ℕ → Type 0
Rises [] = Unit {0}
Rises (x ∷ xs) = All (λ (y : ℕ). x < y) xs × Rises xs

-- transition (f, t) comes before (g, u)
abbrev Precedes : ℕ → ℕ → ℕ → ℕ → Type 0
Precedes f t g u = (f < g) ⊎ ((f ≡ g) × (t < u))

-- and before all of a list
abbrev PrecedesAll : ℕ → ℕ → List ℕ → Type 0
PrecedesAll f t [] = Unit {0}
PrecedesAll f t (g ∷ []) = Unit {0}
PrecedesAll f t (g ∷ u ∷ es) = Precedes f t g u × PrecedesAll f t es

precedes : (f t g u : ℕ) → (ltb f g || (eqb f g && ltb t u)) ≡ true → Precedes f t g u
precedes f t g u e = go (ltb f g) (eqb f g) refl refl e
  where
    go : (x y : Bool) → ltb f g ≡ x → eqb f g ≡ y → (x || (y && ltb t u)) ≡ true → Precedes f t g u
    go true y p q r = inl (ltb-true f g p)
    go false true p q r = inr (eqb-true f g q, ltb-true t u r)
    go false false p q r = absurd (true≢false (sym r))

precedes_trans : (f t g u h w : ℕ) → Precedes f t g u → Precedes g u h w → Precedes f t h w
precedes_trans f t g u h w (inl a) (inl b) = inl (omega arith)
precedes_trans f t g u h w (inl a) (inr b) = inl (omega (arith, b.0))
precedes_trans f t g u h w (inr a) (inl b) = inl (omega (arith, a.0))
precedes_trans f t g u h w (inr a) (inr b) = inr (a.0 ∙ b.0, omega (arith, a.1, b.1))

precedes_more : (f t g u : ℕ) (es : List ℕ) → Precedes f t g u → PrecedesAll g u es → PrecedesAll f t es
precedes_more f t g u [] a b = tt
precedes_more f t g u (h ∷ []) a b = tt
precedes_more f t g u (h ∷ w ∷ es) a b = (precedes_trans f t g u h w a b.0, precedes_more f t g u es a b.1)

precedes_all : (f t : ℕ) (es : List ℕ) → Ascending (f ∷ t ∷ es) → PrecedesAll f t es
precedes_all f t [] asc = tt
precedes_all f t (g ∷ []) asc = tt
precedes_all f t (g ∷ u ∷ es) asc =
    let here : Precedes f t g u = precedes f t g u (asc 0 (omega arith)) in
    (here, precedes_more f t g u es here (precedes_all g u es (ascending_tail f t (g ∷ u ∷ es) asc)))

above_all : (f t : ℕ) (es : List ℕ) (s : ℕ) → PrecedesAll f t es → f ≡ s → All (λ (u : ℕ). t < u) (succs es s)
unfolding succs
above_all f t [] s a e = tt
above_all f t (g ∷ []) s a e = tt
above_all f t (g ∷ u ∷ es) s a e = go (eqb g s) refl a.0 (above_all f t es s a.1 e)
  where
    go : (b : Bool) → eqb g s ≡ b → Precedes f t g u → All (λ (u : ℕ). t < u) (succs es s) → All (λ (u : ℕ). t < u) (cond b (u ∷ succs es s) (succs es s))
    go true q (inl l) later = absurd (omega (arith, eqb-true g s q))
    go true q (inr l) later = (l.1, later)
    go false q l later = later

pub succs_rise : (es : List ℕ) (s : ℕ) → Ascending es → Rises (succs es s)
unfolding succs
succs_rise [] s asc = tt
succs_rise (f ∷ []) s asc = tt
succs_rise (f ∷ t ∷ es) s asc = go (eqb f s) refl (succs_rise es s (ascending_tail f t es asc))
  where
    go : (b : Bool) → eqb f s ≡ b → Rises (succs es s) → Rises (cond b (t ∷ succs es s) (succs es s))
    go true q later = (above_all f t es s (precedes_all f t es asc) (eqb-true f s q), later)
    go false q later = later

not_some : {t : ℕ} → ◌≡◌ {A = Option ℕ} None (Some t) → ⊥
not_some e = cc

module _ (d : List ℕ) (want above : ℕ) where
  fit_is : (xs : List ℕ) (t : ℕ) → first_fit d want above xs ≡ Some t → Memᴰ t xs × (at d t ≡ want) × (above ≤ t)
  unfolding first_fit
  fit_is [] t e = absurd (not_some e)
  fit_is (x ∷ xs) t e = go (leb above x && eqb (at d x) want) refl e (fit_is xs t)
    where
      go : (b : Bool) → (leb above x && eqb (at d x) want) ≡ b → cond b (Some x) (first_fit d want above xs) ≡ Some t → (first_fit d want above xs ≡ Some t → Memᴰ t xs × (at d t ≡ want) × (above ≤ t)) → Memᴰ t (x ∷ xs) × (at d t ≡ want) × (above ≤ t)
      go true q l rest =
          let p = and_parts _ _ q in
          let same : x ≡ t = some_one l in
          subst (λ (y : ℕ). Memᴰ y (x ∷ xs) × (at d y ≡ want) × (above ≤ y)) same (Memᴰ.head refl, eqb-true (at d x) want p.1, leb-true above x p.0)
      go false q l rest = let r = rest l in (Memᴰ.tail r.0, r.1, r.2)

  fit_least : (xs : List ℕ) → Rises xs → (u : ℕ) → Memᴰ u xs → at d u ≡ want → above ≤ u → (t : ℕ) × (first_fit d want above xs ≡ Some t) × (t ≤ u)
  unfolding first_fit
  fit_least [] r u m w a = absurd (Memᴰ.not-nil m)
  fit_least (x ∷ xs) r u m w a = go (leb above x && eqb (at d x) want) refl (Memᴰ.cases_cons m) (λ k. fit_least xs r.1 u k w a)
    where
      go : (b : Bool) → (leb above x && eqb (at d x) want) ≡ b → (u ≡ x) ⊎ Memᴰ u xs → (Memᴰ u xs → (t : ℕ) × (first_fit d want above xs ≡ Some t) × (t ≤ u)) → (t : ℕ) × (cond b (Some x) (first_fit d want above xs) ≡ Some t) × (t ≤ u)
      go true q (inl e) later = (x, refl, omega arith)
      go true q (inr k) later = (x, refl, omega (arith, all_member (λ (y : ℕ). x < y) xs r.0 u k))
      go false q (inl e) later = absurd (true≢false (sym (and_both _ _ (le-leb above x (omega arith)) (eq-eqb (at d x) want (ap (at d) (sym e) ∙ w))) ∙ q))
      go false q (inr k) later = later k

-- what `pick` gives: the smallest successor of s with the distance that is wanted and not below `above`, or none where there is none
pub record Picked (es d : List ℕ) (s want above : ℕ) (r : Option ℕ) : Type 0 where
  pub is_one : (t : ℕ) → r ≡ Some t → Edge es s t × (at d t ≡ want) × (above ≤ t)
  pub least : (u : ℕ) → Edge es s u → at d u ≡ want → above ≤ u → (t : ℕ) × (r ≡ Some t) × (t ≤ u)

pub picked : {S : ℕ} {es d : List ℕ} {s want above : ℕ} {r : Option ℕ} → Graph S es → r ≡ first_fit d want above (succs es s) → Picked es d s want above r
picked {S} {es} {d} {s} {want} {above} {r} G e = subst (Picked es d s want above) (sym e) (
    record {
      is_one = λ t q. let p = fit_is d want above (succs es s) t q in (succ_edge es s t p.0, p.1, p.2);
      least = λ u m w a. fit_least d want above (succs es s) (succs_rise es s G.ascending) u (edge_succ es s u m) w a;
    })

-- where it is none, no successor fits; where it is one, that is the smallest
pub pick_none : {es d : List ℕ} {s want above : ℕ} {r : Option ℕ} → Picked es d s want above r → r ≡ None → (u : ℕ) → Edge es s u → at d u ≡ want → above ≤ u → ⊥
pick_none p e u m w a = not_some (sym e ∙ (p.least u m w a).1)

pub pick_least : {es d : List ℕ} {s want above t : ℕ} {r : Option ℕ} → Picked es d s want above r → r ≡ Some t → (u : ℕ) → Edge es s u → at d u ≡ want → above ≤ u → t ≤ u
pick_least {t = t} p e u m w a = let l = p.least u m w a in let same : t ≡ l.0 = some_one (sym e ∙ l.1) in omega (arith, l.2)
