-- The walk through a set that goes on: it ends where the left value is 0 or where a state comes again, with at most S states.
use mathlib.Core.Path.{◌≡◌, refl, sym, ap, ◌∙◌, subst}
use Prim.Native.Nat.{ℕ, zero, suc, ◌+◌, ◌≤◌, ◌<◌}
use mathlib.Core.List.{List, [], ◌∷◌, ◌++◌}
use mathlib.Core.Logic.{◌⊎◌, inl, inr, ⊎_elim}
use native.Mathlib.Omega.{arith}
use lib.ListN.{length, get_or, set, replicate, length-set, length-replicate}
use lib.Seq.{get_or_at}
use Rattle.lists.specs.Entries.{at, All}
use Rattle.lists.proofs.Sums.{sum, sum_const, sum_raised}
use Rattle.kripke.specs.Transitions.{Edge}
use Rattle.kripke.specs.Walks.{Begins, Joined}
use Rattle.std.specs.Prelude.{Option, Some, None}
use Rattle.lists.proofs.Entries.{same_at, set_or_not}
use Rattle.pictures.specs.Inside.{Goes}
use Rattle.pictures.specs.Pictures.{EndsBy}
use Rattle.pictures.specs.declared.Ending.{Ending}
use Rattle.pictures.specs.declared.Ending.TheVariants.{Falls, Back}
use Rattle.pictures.proofs.Ends.{all_last, all_more, at_end, begins_more, joined_more, last_end, length_end}

-- where a state was passed
abbrev pub place : List (Option ℕ) → ℕ → Option ℕ
place places x = get_or places x None

-- 1 for a state that was passed, and otherwise 0
abbrev pub passed : Option ℕ → ℕ
passed None = 0
passed (Some k) = 1

abbrev pub visit : List (Option ℕ) → ℕ → ℕ
visit places x = passed (place places x)

once : (o : Option ℕ) → passed o ≤ 1
once None = omega arith
once (Some k) = omega arith

none_some : (k : ℕ) → ◌≡◌ {A = Option ℕ} None (Some k) → ⊥
none_some k e = cc

one_place : {j k : ℕ} → ◌≡◌ {A = Option ℕ} (Some j) (Some k) → j ≡ k
one_place e = cc

-- w was passed and s is next, not passed before; places has for each state passed its place
pub record Walking (S : ℕ) (es : List ℕ) (P : ℕ → Type 0) (start : ℕ) (w : List ℕ) (s : ℕ) (places : List (Option ℕ)) : Type 0 where
  pub room : S ≤ length places
  pub begins : Begins start (w ++ (s ∷ []))
  pub joined : Joined es (w ++ (s ∷ []))
  pub holds : All P (w ++ (s ∷ []))
  pub fresh : place places s ≡ None
  pub known : (x k : ℕ) → place places x ≡ Some k → (k < length w) × (at w k ≡ x)
  pub counted : length w ≤ sum (visit places) S

module _ (S : ℕ) (es : List ℕ) (P : ℕ → Type 0) (inside : (s : ℕ) → P s → s < S) (start : ℕ) where
  pub walk_start : (k : ℕ) → S ≤ k → P start → Walking S es P start [] start (replicate k None)
  walk_start k h p =
      record {
        room = rw (length-replicate {A = Option ℕ} k None) h;
        begins = refl;
        joined = tt;
        holds = (p, tt);
        fresh = same_at None k start;
        known = λ x j e. absurd (none_some j (sym (same_at None k x) ∙ e));
        counted = omega arith;
      }

  module _ (w : List ℕ) (s : ℕ) (places : List (Option ℕ)) (k : Walking S es P start w s places) where
    here : s < S
    here = inside s (all_last P w s k.holds)

    -- the states passed are fewer than there are
    pub walk_fits : length w < S
    walk_fits = omega (arith, k.counted, sum_const 1 S, sum_raised (visit places) (λ (x : ℕ). 1) S s here (λ t h. once (place places t)) (rw k.fresh (omega arith)))

    -- s is passed too
    abbrev pub placed : List (Option ℕ)
    placed = set places s (Some (length w))

    at_placed : (x : ℕ) → ((x ≡ s) × (place placed x ≡ Some (length w))) ⊎ ((x ≡ s → ⊥) × (place placed x ≡ place places x))
    at_placed x = set_or_not None places s (Some (length w)) x (omega (arith, here, k.room))

    pub walk_known : (x j : ℕ) → place placed x ≡ Some j → (j < length (w ++ (s ∷ []))) × (at (w ++ (s ∷ [])) j ≡ x)
    walk_known x j l = ⊎_elim new old (at_placed x)
      where
        new : (x ≡ s) × (place placed x ≡ Some (length w)) → (j < length (w ++ (s ∷ []))) × (at (w ++ (s ∷ [])) j ≡ x)
        new q = let e : length w ≡ j = one_place (sym q.1 ∙ l) in (omega (arith, length_end w s), get_or_at w s [] 0 j e ∙ sym q.0)

        old : (x ≡ s → ⊥) × (place placed x ≡ place places x) → (j < length (w ++ (s ∷ []))) × (at (w ++ (s ∷ [])) j ≡ x)
        old q = let p = k.known x j (sym q.1 ∙ l) in (omega (arith, p.0, length_end w s), at_end w s j p.0 ∙ p.1)

    -- the left value is 0 there
    pub walk_falls : (left : ℕ → ℕ) → left s ≡ 0 → EndsBy es left (w ++ (s ∷ [])) Falls
    walk_falls left e = ap left (last_end w s) ∙ e

    module _ (t : ℕ) (e : Edge es s t) where
      -- the next state was passed before
      pub walk_back : (left : ℕ → ℕ) (j : ℕ) → place placed t ≡ Some j → EndsBy es left (w ++ (s ∷ [])) (Back j)
      walk_back left j l =
          let q = walk_known t j l in
          (q.0, subst (λ (x : ℕ). Edge es x (at (w ++ (s ∷ [])) j)) (sym (last_end w s)) (subst (Edge es s) (sym q.1) e))

      -- or not, and the walk goes on
      pub walk_more : P t → place placed t ≡ None → Walking S es P start (w ++ (s ∷ [])) t placed
      walk_more p z =
          record {
            room = rw (length-set places s (Some (length w))) k.room;
            begins = begins_more start (w ++ (s ∷ [])) (t ∷ []) k.begins;
            joined = joined_more es w s t k.joined e;
            holds = all_more P (w ++ (s ∷ [])) t k.holds p;
            fresh = z;
            known = walk_known;
            counted = omega (arith, length_end w s, k.counted, sum_raised (visit places) (visit placed) S s here raised (at_s (at_placed s)));
          }
        where
          raised : (x : ℕ) → x < S → visit places x ≤ visit placed x
          raised x h = ⊎_elim (λ q. rw q.1 (once (place places x))) (λ q. rw q.1 (omega arith)) (at_placed x)

          at_s : ((s ≡ s) × (place placed s ≡ Some (length w))) ⊎ ((s ≡ s → ⊥) × (place placed s ≡ place places s)) → visit places s < visit placed s
          at_s (inl q) = rw (q.1, k.fresh) (omega arith)
          at_s (inr q) = absurd (q.0 refl)

  -- a walk's states, and how it ended
  pub record Ended (left : ℕ → ℕ) : Type 0 where
    pub path : List ℕ
    pub ending : Ending
    pub few : length path ≤ S
    pub begins : Begins start path
    pub joined : Joined es path
    pub holds : All P path
    pub ends : EndsBy es left path ending

  module _ (left : ℕ → ℕ) (goes : (s : ℕ) → P s → Goes es left P s) where
    walk_on : (d : ℕ) (w : List ℕ) (s : ℕ) (places : List (Option ℕ)) → Walking S es P start w s places → S ≤ length w + d → Ended left
    walk_on zero w s places k h = absurd (omega (arith, walk_fits w s places k))
    walk_on (suc d) w s places k h = ⊎_elim falls (onward (λ w' t ps m l. walk_on d w' t ps m l)) (goes s (all_last P w s k.holds))
      where
        ended : (e : Ending) → EndsBy es left (w ++ (s ∷ [])) e → Ended left
        ended e q = record { path = w ++ (s ∷ []); ending = e; few = omega (arith, length_end w s, walk_fits w s places k); begins = k.begins; joined = k.joined; holds = k.holds; ends = q }

        falls : left s ≡ 0 → Ended left
        falls z = ended Falls (walk_falls w s places k left z)

        onward : ((w : List ℕ) (s : ℕ) (places : List (Option ℕ)) → Walking S es P start w s places → S ≤ length w + d → Ended left) → (t : ℕ) × Edge es s t × P t → Ended left
        onward later x = go (place (placed w s places k) x.0) refl
          where
            go : (o : Option ℕ) → place (placed w s places k) x.0 ≡ o → Ended left
            go None z = later (w ++ (s ∷ [])) x.0 (placed w s places k) (walk_more w s places k x.0 x.1 x.2 z) (omega (arith, length_end w s))
            go (Some j) l = ended (Back j) (walk_back w s places k x.0 x.1 left j l)

    pub walk_ends : P start → Ended left
    walk_ends p = walk_on S [] start (replicate S None) (walk_start S (omega arith) p) (omega arith)
