-- A witness at the level exists exactly if E(left U right) reaches it, by induction on the entries of the witness and of the walk.
use mathlib.Core.Path.{◌≡◌, refl, ap, ◌∙◌, subst}
use Prim.Native.Nat.{ℕ, zero, suc, ◌≤◌, ◌<◌, min, max}
use mathlib.Core.List.{List, [], ◌∷◌, map}
use mathlib.Core.Bool.{false}
use mathlib.Core.Logic.{⊎_elim, ◌↔◌}
use native.Mathlib.Numerals.{add-one}
use native.Mathlib.Omega.{arith}
use native.Mathlib.Nat.{le_of_eq, le_trans}
use lib.ListN.{length}
use Rattle.lists.specs.Choosing.{best}
use Rattle.lists.specs.Entries.{at}
use Rattle.lists.proofs.Choosing.{greatest_bounds}
use Rattle.lists.proofs.Numbers.{reach_max}
use Rattle.values.specs.Rows.{row_values}
use Rattle.values.proofs.StoredRows.{values_at}
use Rattle.kripke.specs.Transitions.{Graph, succs}
use Rattle.kripke.specs.Until.{step, until}
use Rattle.kripke.specs.Walks.{Begins}
use Rattle.kripke.proofs.EndlessPaths.{chosen}
use Rattle.kripke.proofs.Rest.{enough, never_above}
use Rattle.kripke.proofs.Steps.{until_one, until_step}
use Rattle.kripke.proofs.Successors.{edge_state, edge_succ}
use Rattle.paths.specs.Questions.{From, LeftHolds, Question, Reaches, RightHolds, Witness, Witnessed}
use Rattle.paths.proofs.Places.{from_map, reaches_row, row_reaches}

module _ (S : ℕ) (es : List ℕ) (G : Graph S es) (L R : List ℕ) (w : ℕ) where
  abbrev Fr : ℕ → List ℕ → Type 0
  Fr = From es (Reaches S w (at L)) (Reaches S w (at R))

  abbrev E : ℕ → ℕ → ℕ
  E n s = until false es L R n s

  from_until : (s : ℕ) (p : List ℕ) → Fr s p → w ≤ E (suc (length p)) s
  from_until s [] f = rw (until_one false es L R s) f.1
  from_until s (t ∷ p) f =
      let later : w ≤ E (suc (length p)) t = from_until t p f.2 in
      let b : E (suc (length p)) t ≤ best max (map (E (suc (length p))) (succs es s)) = greatest_bounds (E (suc (length p))) (succs es s) t (edge_succ es s t f.1) in
      let l : w ≤ at L s = f.0.1 in
      rw (until_step false S es G L R (length p) s f.0.0) (omega arith)

  until_from : (n s : ℕ) → s < S → w ≤ E (suc n) s → (p : List ℕ) × Fr s p
  until_from zero s h v = ([], (h, rw (until_one false es L R s) at v))
  until_from (suc n) s h v =
      let c = chosen S es G false L R (E (suc n)) s h in
      let u : w ≤ step (at L s) (at R s) (E (suc n) c.0) = subst (λ (x : ℕ). w ≤ x) (until_step false S es G L R n s h ∙ ap (step (at L s) (at R s)) c.2) v in
      ⊎_elim
      (λ (r : w ≤ at R s). ([], (h, r)))
      (λ (m : w ≤ min (at L s) (E (suc n) c.0)).
      let i = until_from n c.0 (edge_state S es G s c.0 c.1) (omega arith) in
      (c.0 ∷ i.0, ((h, omega arith), c.1, i.1)))
      (reach_max w (at R s) (min (at L s) (E (suc n) c.0)) u)

  both : (s : ℕ) → s < S → ((p : List ℕ) × Fr s p) ↔ (w ≤ E S s)
  both s h = (λ x. le_trans (from_until s x.0 x.1) (never_above false S es G L R (length x.0) s h), λ v. until_from S s h (le_trans v (le_of_eq more)))
    where
      more : E S s ≡ E (suc S) s
      more = enough false S es G L R 1 s h ∙ ap (λ (k : ℕ). until false es L R k s) (add-one S)

-- a witness over the rows' values is one over the stored rows, and back
module _ (q : Question) where
  abbrev values : List ℕ → List ℕ
  values row = row_values q.states row

  abbrev Valued : ℕ → List ℕ → Type 0
  Valued = From q.transitions (Reaches q.states q.level (at (values q.left))) (Reaches q.states q.level (at (values q.right)))

  stored : (s : ℕ) (p : List ℕ) → Valued s p → From q.transitions (LeftHolds q) (RightHolds q) s p
  stored = from_map q.transitions _ _ (LeftHolds q) (RightHolds q) (row_reaches q.states q.level q.left (values q.left) (values_at q.states q.left)) (row_reaches q.states q.level q.right (values q.right) (values_at q.states q.right))

  valued : (s : ℕ) (p : List ℕ) → Begins s p → Witness q p → (r : List ℕ) × Valued s r
  valued s [] b w = absurd b
  valued s (x ∷ r) b w = (r, from_map q.transitions (LeftHolds q) (RightHolds q) _ _ (reaches_row q.states q.level q.left (values q.left) (values_at q.states q.left)) (reaches_row q.states q.level q.right (values q.right) (values_at q.states q.right)) s r (rw b at w))

pub until_link : (q : Question) (s : ℕ) → Graph q.states q.transitions → s < q.states → Witnessed q s ↔ (q.level ≤ until false q.transitions (row_values q.states q.left) (row_values q.states q.right) q.states s)
until_link q s G h =
    let link = both q.states q.transitions G (values q q.left) (values q q.right) q.level s h in
    (λ x. link.0 (valued q s x.0 x.1 x.2), λ v. let x = link.1 v in (s ∷ x.0, refl, stored q s x.0 x.1))
