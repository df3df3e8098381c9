-- The recurrence: an until over walks of one state more is one step back. One argument for E and A.
use mathlib.Core.Path.{◌≡◌, refl, sym, ap, ◌∙◌}
use Prim.Native.Nat.{ℕ, suc, ◌<◌, ◌≤◌, min, max}
use mathlib.Core.List.{List, [], ◌∷◌, map, map-map}
use mathlib.Core.Bool.{Bool, true, false}
use mathlib.Core.Logic.{◌⊎◌, inl, inr, ⊎_elim}
use native.Mathlib.Omega.{arith}
use lib.ListN.{length}
use Rattle.kripke.specs.Transitions.{Graph, succs}
use Rattle.kripke.specs.Until.{place_value, step, until, until_value}
use Rattle.values.specs.Values.{choose}
use Rattle.kripke.specs.Walks.{walks}
use Rattle.lists.specs.Choosing.{best, lowest}
use Rattle.lists.specs.Entries.{at}
use Rattle.lists.specs.Rows.{each, tab}
use Rattle.kripke.proofs.Successors.{succs_states}
use Rattle.kripke.proofs.Walks.{some_walks}
use Rattle.lists.proofs.Choosing.{best_each, best_map, most_cons}
use Rattle.lists.proofs.Entries.{map_same, some_map}
use Rattle.lists.proofs.Numbers.{lt_or_le}
use Rattle.lists.proofs.Rows.{tab_cons, tab_map}

pub choose_assoc : (all : Bool) (a b c : ℕ) → choose all (choose all a b) c ≡ choose all a (choose all b c)
choose_assoc false a b c = omega arith
choose_assoc true a b c = omega arith

-- the choice is one of the two
pub choose_picks : (all : Bool) (a b : ℕ) → (choose all a b ≡ a) ⊎ (choose all a b ≡ b)
choose_picks false a b = ⊎_elim (λ (l : a < b). inr (omega arith)) (λ (l : b ≤ a). inl (omega arith)) (lt_or_le a b)
choose_picks true a b = ⊎_elim (λ (l : a < b). inl (omega arith)) (λ (l : b ≤ a). inr (omega arith)) (lt_or_le a b)

-- a step goes through the choice; min and max one after the other, for omega's sake
pub step_choose : (all : Bool) (l r a b : ℕ) → step l r (choose all a b) ≡ choose all (step l r a) (step l r b)
step_choose all l r a b = ap (max r) (by_min all) ∙ by_max all (min l a) (min l b)
  where
    by_min : (all : Bool) → min l (choose all a b) ≡ choose all (min l a) (min l b)
    by_min false = omega arith
    by_min true = omega arith

    by_max : (all : Bool) (x y : ℕ) → max r (choose all x y) ≡ choose all (max r x) (max r y)
    by_max false x y = omega arith
    by_max true x y = omega arith

most_min : (l : ℕ) (xs : List ℕ) → best max (map (min l) xs) ≡ min l (best max xs)
unfolding best
most_min l [] = omega arith
most_min l (x ∷ xs) = best_map max max (min l) (λ a b. omega arith) (x ∷ xs) tt

pub value_nil : (L R : List ℕ) → until_value L R [] ≡ 0
unfolding until_value best tab
value_nil L R = refl

-- a walk's value by its first state and the rest
pub value_cons : (L R : List ℕ) (s : ℕ) (w : List ℕ) → until_value L R (s ∷ w) ≡ step (at L s) (at R s) (until_value L R w)
unfolding until_value place_value lowest
value_cons L R s w =
    ap (best max) (tab_cons (place_value L R (s ∷ w)) (length w))
    ∙ most_cons (at R s) (tab (λ (i : ℕ). place_value L R (s ∷ w) (suc i)) (length w))
    ∙ ap (max (at R s)) (ap (best max) (tab_map (min (at L s)) (place_value L R w) (length w)) ∙ most_min (at L s) (tab (place_value L R w) (length w)))

-- over walks of one state: the right value
pub until_one : (all : Bool) (es L R : List ℕ) (s : ℕ) → until all es L R 1 s ≡ at R s
unfolding until walks until_value place_value lowest best tab
until_one all es L R s = refl

module _ (all : Bool) (S : ℕ) (es : List ℕ) (G : Graph S es) (L R : List ℕ) where
  pub until_step : (n s : ℕ) → s < S → until all es L R (suc (suc n)) s ≡ step (at L s) (at R s) (best (choose all) (map (until all es L R (suc n)) (succs es s)))
  unfolding until walks
  until_step n s h =
      let ws : List (List ℕ) = each (λ (t : ℕ). walks es (suc n) t) (succs es s) in
      let back : ℕ → ℕ = step (at L s) (at R s) in
      let joined = best_each (choose all) (choose_assoc all) (λ (t : ℕ). t < S) (until_value L R) (λ (t : ℕ). walks es (suc n) t) (some_walks S es G n) (succs es s) (succs_states S es G s) (G.out s h) in
      ap (best (choose all))
      (map-map (until_value L R) (λ (w : List ℕ). s ∷ w) ws
      ∙ map_same (λ (w : List ℕ). until_value L R (s ∷ w)) (λ (w : List ℕ). back (until_value L R w)) (value_cons L R s) ws
      ∙ sym (map-map back (until_value L R) ws))
      ∙ best_map (choose all) (choose all) back (step_choose all (at L s) (at R s)) (map (until_value L R) ws) (some_map (until_value L R) ws joined.0)
      ∙ ap back joined.1
