-- All shortest witnesses from a state, in ascending order: of the walks of the least length that has one, those with no entry at fault.
use mathlib.Core.Path.{◌≡◌, refl, sym, ap, ◌∙◌, subst}
use Prim.Native.Nat.{ℕ, zero, suc, ◌≤◌, ◌<◌}
use mathlib.Core.List.{List, [], ◌∷◌}
use mathlib.Core.Bool.{Bool, true, false, cond, not}
use mathlib.Core.Logic.{◌⊎◌, inl, inr, ⊎_elim}
use native.Mathlib.Omega.{arith}
use native.Mathlib.Nat.{eq-or-lt_of_le}
use lib.ListN.{length}
use borrow.Author.Tests.{not-true}
use Rattle.values.specs.Rows.{value_at}
use Rattle.kripke.specs.Transitions.{Graph}
use Rattle.kripke.specs.Walks.{Begins, Joined, walks}
use Rattle.lists.specs.Entries.{any_below, is_nil}
use Rattle.paths.specs.Inside.{at_fault}
use Rattle.paths.specs.Order.{Among, Ascending}
use Rattle.paths.specs.Questions.{From, LeftHolds, Question, RightHolds, Shortest, Witness}
use Rattle.kripke.proofs.Walks.{listed_walk, walk_listed}
use Rattle.lists.proofs.Tests.{or_none}
use Rattle.paths.proofs.Breaks.{faultless, no_fault}
use Rattle.paths.proofs.Listing.{among_mem, keep, keep_ascending, keeps, kept, mem_among, walks_ascending}
use Rattle.paths.proofs.Places.{whole}
use Rattle.paths.proofs.Room.{few_enough_lem}

nowhere : (p : ℕ → Bool) (n : ℕ) → ((i : ℕ) → i < n → p i ≡ false) → any_below p n ≡ false
unfolding any_below
nowhere p zero h = refl
nowhere p (suc n) h = or_none (any_below p n) (p n) (nowhere p n (λ i l. h i (omega arith))) (h n (omega arith))

from_joined : (q : Question) (x : ℕ) (p : List ℕ) → From q.transitions (LeftHolds q) (RightHolds q) x p → Joined q.transitions (x ∷ p)
from_joined q x [] f = tt
from_joined q x (t ∷ p) f = (f.1, from_joined q t p f.2)

-- every shortest witness from s, in ascending order
pub record Everyone (q : Question) (s : ℕ) : Type 0 where
  pub lists : List (List ℕ)
  pub ascending : Ascending lists
  pub only : (r : List ℕ) → Among r lists → Shortest q s r
  pub every : (r : List ℕ) → Shortest q s r → Among r lists
  pub some : (r : List ℕ) → Begins s r → Witness q r → (p : List ℕ) × Among p lists

module _ (q : Question) (s : ℕ) where
  -- no entry is at fault
  unfoldable pub sound : List ℕ → Bool
  sound p = not (any_below (at_fault q.states q.transitions (value_at q.left) (value_at q.right) q.level p) (length p))

  -- the witnesses of n entries
  unfoldable pub listed : ℕ → List (List ℕ)
  listed n = keep sound (walks q.transitions n s)

  -- those of the least length of at most k that has one
  unfoldable pub shortest_upto : ℕ → List (List ℕ)
  shortest_upto zero = []
  shortest_upto (suc k) = cond (is_nil (shortest_upto k)) (listed (suc k)) (shortest_upto k)

  witness_sound : (p : List ℕ) → Witness q p → sound p ≡ true
  unfolding sound
  witness_sound [] w = absurd w
  witness_sound (x ∷ p) w = ap not (nowhere _ (length (x ∷ p)) (no_fault q.states q.transitions (value_at q.left) (value_at q.right) q.level (x ∷ p) w))

  sound_witness : (p : List ℕ) → 0 < length p → sound p ≡ true → Witness q p
  unfolding sound
  sound_witness p h e = subst (Witness q) (sym (whole p h)) (faultless q.states q.transitions (value_at q.left) (value_at q.right) q.level p h (not-true _ e))

  witness_listed : (n : ℕ) (p : List ℕ) → length p ≡ n → Begins s p → Witness q p → Among p (listed n)
  unfolding listed
  witness_listed n [] e b w = absurd b
  witness_listed n (x ∷ p) e b w = keeps sound (x ∷ p) (walks q.transitions n s) (mem_among (x ∷ p) _ (walk_listed q.transitions n s (x ∷ p) (record { size = e; begins = b; joined = from_joined q x p w }))) (witness_sound (x ∷ p) w)

  begins_some : (p : List ℕ) → Begins s p → 0 < length p
  begins_some [] b = absurd b
  begins_some (x ∷ p) b = omega arith

  listed_witness : (n : ℕ) (p : List ℕ) → Among p (listed n) → Begins s p × Witness q p × (length p ≡ n)
  unfolding listed
  listed_witness n p m =
      let k = kept sound p (walks q.transitions n s) m in
      let w = listed_walk q.transitions n s p (among_mem p (walks q.transitions n s) k.0) in
      (w.begins, sound_witness p (begins_some p w.begins) k.1, w.size)

  -- no witness of up to k entries, or the least length of one
  abbrev NoneUpto : ℕ → Type 0
  NoneUpto k = (p : List ℕ) → Begins s p → Witness q p → k < length p

  record Fewest : Type 0 where
    pub size : ℕ
    pub one : List ℕ
    pub is : Among one (listed size)
    pub least : (p : List ℕ) → Begins s p → Witness q p → size ≤ length p

  nil_empty : (ps : List (List ℕ)) (p : List ℕ) → Among p ps → is_nil ps ≡ false
  nil_empty [] p m = absurd m
  nil_empty (x ∷ ps) p m = refl

  fewest_or_none : (k : ℕ) → (NoneUpto k × (shortest_upto k ≡ [])) ⊎ ((f : Fewest) × (shortest_upto k ≡ listed f.size))
  unfolding shortest_upto
  fewest_or_none zero = inl (λ p b w. begins_some p b, refl)
  fewest_or_none (suc k) =
      ⊎_elim
      (λ none. go none.0 (listed (suc k)) refl (ap (λ (b : List (List ℕ)). cond (is_nil b) (listed (suc k)) (shortest_upto k)) none.1))
      (λ f. inr (f.0, ap (λ (b : Bool). cond b (listed (suc k)) (shortest_upto k)) (ap is_nil f.1 ∙ nil_empty (listed f.0.size) f.0.one f.0.is) ∙ f.1))
      (fewest_or_none k)
    where
      go : NoneUpto k → (ps : List (List ℕ)) → listed (suc k) ≡ ps → shortest_upto (suc k) ≡ listed (suc k) → (NoneUpto (suc k) × (shortest_upto (suc k) ≡ [])) ⊎ ((f : Fewest) × (shortest_upto (suc k) ≡ listed f.size))
      go none [] e t = inl (λ p b w. ⊎_elim (λ (z : suc k ≡ length p). absurd (subst (Among p) e (witness_listed (suc k) p (sym z) b w))) (λ (l : suc k < length p). l) (eq-or-lt_of_le (none p b w)), t ∙ e)
      go none (p ∷ ps) e t = inr (record { size = suc k; one = p; is = subst (Among p) (sym e) (inl refl); least = none }, t)

  -- all of them, in ascending order, and they are computed
  pub everyone : Graph q.states q.transitions → (e : Everyone q s) × (e.lists ≡ shortest_upto q.states)
  unfolding listed
  everyone G = ⊎_elim none some (fewest_or_none q.states)
    where
      none : NoneUpto q.states × (shortest_upto q.states ≡ []) → (e : Everyone q s) × (e.lists ≡ shortest_upto q.states)
      none n =
          let never : (r : List ℕ) → Begins s r → Witness q r → ⊥ = λ r b w. let x = (few_enough_lem q s).0 (r, b, w) in omega (arith, n.0 x.0 x.1 x.2, x.3) in
          (record { lists = []; ascending = tt; only = λ r m. absurd m; every = λ r h. never r h.begins h.witness; some = λ r b w. absurd (never r b w) }, sym n.1)

      some : (f : Fewest) × (shortest_upto q.states ≡ listed f.size) → (e : Everyone q s) × (e.lists ≡ shortest_upto q.states)
      some g =
          let f = g.0 in
          let first = listed_witness f.size f.one f.is in (
            record {
              lists = listed f.size;
              ascending = keep_ascending sound (walks q.transitions f.size s) (walks_ascending q.states q.transitions G f.size s);
              only = λ r m. let x = listed_witness f.size r m in record { begins = x.0; witness = x.1; fewest = λ p b w. omega (arith, f.least p b w, x.2) };
              every = λ r h. witness_listed f.size r (omega (arith, h.fewest f.one first.0 first.1, first.2, f.least r h.begins h.witness)) h.begins h.witness;
              some = λ r b w. (f.one, f.is);
            },
            sym g.1,
          )
