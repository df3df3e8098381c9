-- The listed walks are exactly the walks.
use mathlib.Core.Path.{refl, ap, subst}
use Prim.Native.Nat.{ℕ, zero, suc, ◌<◌, max}
use mathlib.Core.List.Memᴰ
use mathlib.Core.List.{List, [], ◌∷◌, Memᴰ}
use mathlib.Core.Logic.{⊎_elim}
use native.Mathlib.Omega.{arith}
use lib.ListN.{length}
use Rattle.kripke.specs.Transitions.{Edge, Graph, succs}
use Rattle.kripke.specs.Walks.{Walk, walks}
use Rattle.lists.specs.Entries.{Some}
use Rattle.lists.specs.Rows.{each}
use Rattle.kripke.proofs.Successors.{edge_succ, succ_edge, succs_states}
use Rattle.lists.proofs.Choosing.{best_each}
use Rattle.lists.proofs.Entries.{some_map}

-- what stands in a list of joined lists
mem_each : (g : ℕ → List (List ℕ)) (ts : List ℕ) (w : List ℕ) → Memᴰ w (each g ts) → (t : ℕ) × Memᴰ t ts × Memᴰ w (g t)
unfolding each
mem_each g [] w m = absurd (Memᴰ.not-nil m)
mem_each g (t ∷ ts) w m =
    ⊎_elim
    (λ k. (t, Memᴰ.head refl, k))
    (λ k. let r = mem_each g ts w k in (r.0, Memᴰ.tail r.1, r.2))
    (Memᴰ.append_cases (g t) m)

each_mem : (g : ℕ → List (List ℕ)) (ts : List ℕ) (t : ℕ) (w : List ℕ) → Memᴰ t ts → Memᴰ w (g t) → Memᴰ w (each g ts)
unfolding each
each_mem g [] t w m k = elim m [ ]
each_mem g (x ∷ ts) t w (Memᴰ.head e) k = Memᴰ.append_left (each g ts) (subst (λ (y : ℕ). Memᴰ w (g y)) e k)
each_mem g (x ∷ ts) t w (Memᴰ.tail m) k = Memᴰ.append_right (g x) (each_mem g ts t w m k)

longer : (es : List ℕ) (n s t : ℕ) (v : List ℕ) → Edge es s t → Walk es (suc n) t v → Walk es (suc (suc n)) s (s ∷ v)
longer es n s t [] e k = absurd k.begins
longer es n s t (y ∷ v) e k = record { size = ap suc k.size; begins = refl; joined = (rw k.begins e, k.joined) }

-- each listed one is a walk
pub listed_walk : (es : List ℕ) (n s : ℕ) (w : List ℕ) → Memᴰ w (walks es n s) → Walk es n s w
unfolding walks
listed_walk es zero s w m = absurd (Memᴰ.not-nil m)
listed_walk es (suc zero) s w m = rw (Memᴰ.eq_of_singleton m) (record { size = refl; begins = refl; joined = tt })
listed_walk es (suc (suc n)) s w m =
    let a = Memᴰ.of_map (λ (v : List ℕ). s ∷ v) (each (λ (t : ℕ). walks es (suc n) t) (succs es s)) m in
    let b = mem_each (λ (t : ℕ). walks es (suc n) t) (succs es s) a.0 a.1 in
    subst (Walk es (suc (suc n)) s) a.2 (longer es n s b.0 a.0 (succ_edge es s b.0 b.1) (listed_walk es (suc n) b.0 a.0 b.2))

-- each walk is listed
pub walk_listed : (es : List ℕ) (n s : ℕ) (w : List ℕ) → Walk es n s w → Memᴰ w (walks es n s)
unfolding walks
walk_listed es zero s [] k = absurd k.begins
walk_listed es zero s (x ∷ w) k = absurd (omega (arith, k.size))
walk_listed es (suc n) s [] k = absurd k.begins
walk_listed es (suc zero) s (x ∷ []) k = Memᴰ.head (ap (λ (y : ℕ). y ∷ []) k.begins)
walk_listed es (suc (suc n)) s (x ∷ []) k = absurd (omega (arith, k.size))
walk_listed es (suc zero) s (x ∷ y ∷ w) k = absurd (omega (arith, k.size))
walk_listed es (suc (suc n)) s (x ∷ y ∷ w) k =
    let rest = walk_listed es (suc n) y (y ∷ w) (record { size = omega (arith, k.size); begins = refl; joined = k.joined.1 }) in
    let next = edge_succ es s y (rw k.begins at k.joined.0) in
    Memᴰ.cast (ap (λ (z : ℕ). z ∷ y ∷ w) k.begins) (Memᴰ.map (λ (v : List ℕ). s ∷ v) (each_mem (λ (t : ℕ). walks es (suc n) t) (succs es s) y (y ∷ w) next rest))

-- a state of a graph has walks of every length from one on
pub some_walks : (S : ℕ) (es : List ℕ) → Graph S es → (n s : ℕ) → s < S → Some (walks es (suc n) s)
unfolding walks
some_walks S es G zero s h = tt
some_walks S es G (suc n) s h = some_map (λ (w : List ℕ). s ∷ w) (each (λ (t : ℕ). walks es (suc n) t) (succs es s)) (best_each max (λ a b c. omega arith) (λ (t : ℕ). t < S) length (λ (t : ℕ). walks es (suc n) t) (some_walks S es G n) (succs es s) (succs_states S es G s) (G.out s h)).0
