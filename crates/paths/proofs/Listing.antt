-- The walks of a graph ascend, and what is kept of an ascending list by a test ascends.
use mathlib.Core.Path.{◌≡◌, refl, sym, ap, ◌∙◌, subst}
use Prim.Native.Nat.{ℕ, zero, suc, ◌<◌}
use mathlib.Core.List.{List, [], ◌∷◌, ◌++◌, map, Memᴰ}
use mathlib.Core.Bool.{Bool, true, false, cond}
use mathlib.Core.Logic.{◌⊎◌, inl, inr, ⊎_elim}
use native.Mathlib.Omega.{arith}
use Rattle.lists.specs.Entries.{All}
use Rattle.lists.specs.Rows.{each}
use Rattle.kripke.specs.Transitions.{Graph, succs}
use Rattle.kripke.specs.Walks.{Begins, walks}
use Rattle.kripke.proofs.Walks.{listed_walk}
use Rattle.paths.specs.Order.{Among, Ascending, Smaller}
use Rattle.paths.proofs.Fits.{Rises, succs_rise}

pub mem_among : (r : List ℕ) (ps : List (List ℕ)) → Memᴰ r ps → Among r ps
mem_among r [] x' = elim x' [ ]
mem_among r (p ∷ ps) (Memᴰ.head e) = inl (sym e)
mem_among r (p ∷ ps) (Memᴰ.tail m) = inr (mem_among r ps m)

pub among_mem : (r : List ℕ) (ps : List (List ℕ)) → Among r ps → Memᴰ r ps
among_mem r [] x' = elim x' [ ]
among_mem r (p ∷ ps) (inl e) = Memᴰ.head (sym e)
among_mem r (p ∷ ps) (inr m) = Memᴰ.tail (among_mem r ps m)

-- the lists that pass a test
unfoldable pub keep : (List ℕ → Bool) → List (List ℕ) → List (List ℕ)
keep f [] = []
keep f (p ∷ ps) = cond (f p) (p ∷ keep f ps) (keep f ps)

module _ (f : List ℕ → Bool) where
  pub kept : (r : List ℕ) (ps : List (List ℕ)) → Among r (keep f ps) → Among r ps × (f r ≡ true)
  unfolding keep
  kept r [] m = absurd m
  kept r (p ∷ ps) m = go (f p) refl m (kept r ps)
    where
      go : (b : Bool) → f p ≡ b → Among r (cond b (p ∷ keep f ps) (keep f ps)) → (Among r (keep f ps) → Among r ps × (f r ≡ true)) → Among r (p ∷ ps) × (f r ≡ true)
      go true q (inl e) later = (inl e, subst (λ (x : List ℕ). f x ≡ true) e q)
      go true q (inr k) later = let x = later k in (inr x.0, x.1)
      go false q k later = let x = later k in (inr x.0, x.1)

  pub keeps : (r : List ℕ) (ps : List (List ℕ)) → Among r ps → f r ≡ true → Among r (keep f ps)
  unfolding keep
  keeps r [] m e = absurd m
  keeps r (p ∷ ps) (inl q) e = rw (ap f q ∙ e) (inl q)
  keeps r (p ∷ ps) (inr m) e = go (f p) (keeps r ps m e)
    where
      go : (b : Bool) → Among r (keep f ps) → Among r (cond b (p ∷ keep f ps) (keep f ps))
      go true k = inr k
      go false k = k

  pub keep_ascending : (ps : List (List ℕ)) → Ascending ps → Ascending (keep f ps)
  unfolding keep
  keep_ascending [] a = tt
  keep_ascending (p ∷ ps) a = go (f p) (keep_ascending ps a.1)
    where
      go : (b : Bool) → Ascending (keep f ps) → Ascending (cond b (p ∷ keep f ps) (keep f ps))
      go true later = (λ r m. a.0 r (kept r ps m).0, later)
      go false later = later

-- joined lists ascend if each does and all of one are smaller than all of a later one
among_split : (r : List ℕ) (xs ys : List (List ℕ)) → Among r (xs ++ ys) → Among r xs ⊎ Among r ys
among_split r [] ys m = inr m
among_split r (x ∷ xs) ys (inl e) = inl (inl e)
among_split r (x ∷ xs) ys (inr m) = ⊎_elim (λ a. inl (inr a)) (λ a. inr a) (among_split r xs ys m)

ascending_append : (xs ys : List (List ℕ)) → Ascending xs → Ascending ys → ((p r : List ℕ) → Among p xs → Among r ys → Smaller p r) → Ascending (xs ++ ys)
ascending_append [] ys a b f = b
ascending_append (x ∷ xs) ys a b f = (
  λ r m. ⊎_elim (λ h. a.0 r h) (λ h. f x r (inl refl) h) (among_split r xs ys m),
  ascending_append xs ys a.1 b (λ p r h k. f p r (inr h) k),
)

among_each : (g : ℕ → List (List ℕ)) (ts : List ℕ) (r : List ℕ) → Among r (each g ts) → (t : ℕ) × Memᴰ t ts × Among r (g t)
unfolding each
among_each g [] r m = absurd m
among_each g (t ∷ ts) r m = ⊎_elim (λ k. (t, Memᴰ.head refl, k)) (λ k. let x = among_each g ts r k in (x.0, Memᴰ.tail x.1, x.2)) (among_split r (g t) (each g ts) m)

above_member : (x : ℕ) (ts : List ℕ) → All (λ (y : ℕ). x < y) ts → (t : ℕ) → Memᴰ t ts → x < t
above_member x [] a t x3 = elim x3 [ ]
above_member x (y ∷ ts) a t (Memᴰ.head e) = omega (arith, a.0)
above_member x (y ∷ ts) a t (Memᴰ.tail m) = above_member x ts a.1 t m

by_first : (s t : ℕ) (p r : List ℕ) → Begins s p → Begins t r → s < t → Smaller p r
by_first s t [] r b c l = absurd b
by_first s t (x ∷ p) [] b c l = absurd c
by_first s t (x ∷ p) (y ∷ r) b c l = inl (omega arith)

among_map : (s : ℕ) (r : List ℕ) (ps : List (List ℕ)) → Among r (map (λ (p : List ℕ). s ∷ p) ps) → (p : List ℕ) × (s ∷ p ≡ r) × Among p ps
among_map s r [] m = absurd m
among_map s r (p ∷ ps) (inl e) = (p, e, inl refl)
among_map s r (p ∷ ps) (inr m) = let x = among_map s r ps m in (x.0, x.1, inr x.2)

map_ascending : (s : ℕ) (ps : List (List ℕ)) → Ascending ps → Ascending (map (λ (p : List ℕ). s ∷ p) ps)
map_ascending s [] a = tt
map_ascending s (p ∷ ps) a = (λ r m. let x = among_map s r ps m in subst (Smaller (s ∷ p)) x.1 (inr (refl, a.0 x.0 x.2)), map_ascending s ps a.1)

each_ascending : (g : ℕ → List (List ℕ)) → ((t : ℕ) → Ascending (g t)) → ((t : ℕ) (p : List ℕ) → Among p (g t) → Begins t p) → (ts : List ℕ) → Rises ts → Ascending (each g ts)
unfolding each
each_ascending g a b [] r = tt
each_ascending g a b (t ∷ ts) r =
    ascending_append (g t) (each g ts) (a t) (each_ascending g a b ts r.1)
    (λ p v h k. let x = among_each g ts v k in by_first t x.0 p v (b t p h) (b x.0 v x.2) (above_member t ts r.0 x.0 x.1))

pub walks_ascending : (S : ℕ) (es : List ℕ) → Graph S es → (n s : ℕ) → Ascending (walks es n s)
unfolding walks
walks_ascending S es G zero s = tt
walks_ascending S es G (suc zero) s = (λ r m. absurd m, tt)
walks_ascending S es G (suc (suc n)) s =
    map_ascending s (each (λ (t : ℕ). walks es (suc n) t) (succs es s))
    (each_ascending (λ (t : ℕ). walks es (suc n) t) (walks_ascending S es G (suc n)) (λ t p m. (listed_walk es (suc n) t p (among_mem p (walks es (suc n) t) m)).begins) (succs es s) (succs_rise es s G.ascending))
