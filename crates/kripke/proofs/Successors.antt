-- `Edge` and `succs` say the same, `Edge` and the places of the list do, and the successors of a state are states.
use mathlib.Core.Path.{◌≡◌, refl, sym}
use Prim.Native.Nat.{ℕ, ◌<◌}
use mathlib.Core.List.Memᴰ
use mathlib.Core.List.{List, [], ◌∷◌, Memᴰ}
use mathlib.Core.Bool.{Bool, true, false, cond}
use mathlib.Core.Logic.{inl, inr, ⊎_elim}
use lib.Dec.{eqb}
use borrow.Author.Tests.{eq-eqb, eqb-true}
use Rattle.kripke.specs.Transitions.{Edge, Graph, succs}
use Rattle.lists.specs.Entries.{All}
use Rattle.lists.proofs.Entries.{all_member}

pub succ_edge : (es : List ℕ) (s t : ℕ) → Memᴰ t (succs es s) → Edge es s t
unfolding succs
succ_edge [] s t m = absurd (Memᴰ.not-nil m)
succ_edge (f ∷ []) s t m = absurd (Memᴰ.not-nil m)
succ_edge (f ∷ u ∷ es) s t m = go (eqb f s) refl m (succ_edge es s t)
  where
    go : (b : Bool) → eqb f s ≡ b → Memᴰ t (cond b (u ∷ succs es s) (succs es s)) → (Memᴰ t (succs es s) → Edge es s t) → Edge (f ∷ u ∷ es) s t
    go true e k later = ⊎_elim (λ q. inl (eqb-true f s e, sym q)) (λ r. inr (later r)) (Memᴰ.cases_cons k)
    go false e k later = inr (later k)

pub edge_succ : (es : List ℕ) (s t : ℕ) → Edge es s t → Memᴰ t (succs es s)
unfolding succs
edge_succ [] s t e = absurd e
edge_succ (f ∷ []) s t e = absurd e
edge_succ (f ∷ u ∷ es) s t (inl p) = rw (eq-eqb f s p.0) (Memᴰ.head (sym p.1))
edge_succ (f ∷ u ∷ es) s t (inr r) = go (eqb f s) (edge_succ es s t r)
  where
    go : (b : Bool) → Memᴰ t (succs es s) → Memᴰ t (cond b (u ∷ succs es s) (succs es s))
    go true m = Memᴰ.tail m
    go false m = m

pub succs_all : (P : ℕ → Type 0) (es : List ℕ) (s : ℕ) → All P es → All P (succs es s)
unfolding succs
succs_all P [] s a = tt
succs_all P (f ∷ []) s a = tt
succs_all P (f ∷ t ∷ es) s a = go (eqb f s) (succs_all P es s a.1.1)
  where
    go : (b : Bool) → All P (succs es s) → All P (cond b (t ∷ succs es s) (succs es s))
    go true later = (a.1.0, later)
    go false later = later

module _ (S : ℕ) (es : List ℕ) (G : Graph S es) where
  pub succs_states : (s : ℕ) → All (λ (t : ℕ). t < S) (succs es s)
  succs_states s = succs_all (λ (t : ℕ). t < S) es s G.ends

  pub edge_state : (s t : ℕ) → Edge es s t → t < S
  edge_state s t e = all_member (λ (t : ℕ). t < S) (succs es s) (succs_states s) t (edge_succ es s t e)
