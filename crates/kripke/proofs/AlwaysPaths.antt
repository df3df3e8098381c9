-- What eventually and always say of endless paths, at every level.
use mathlib.Core.Path.{sym, subst}
use Prim.Native.Nat.{ℕ, zero, suc, ◌-◌, ◌≤◌, ◌<◌}
use mathlib.Core.List.{List}
use mathlib.Core.Bool.{true, false}
use mathlib.Core.Logic.{⊎_elim, ◌↔◌}
use native.Mathlib.Omega.{arith}
use Rattle.kripke.specs.Endless.{Endless, EveryHas, EveryKeeps, Settles, SomeHas, SomeKeeps}
use Rattle.kripke.specs.Transitions.{Graph}
use Rattle.kripke.specs.Until.{everywhere, opposite}
use Rattle.values.specs.Values.{top}
use Rattle.lists.specs.Entries.{at}
use Rattle.kripke.proofs.Always.{always, eventually, eventually_small, everywhere_at, opposite_at, small_opposite}
use Rattle.kripke.proofs.EndlessPaths.{A-misses, A-paths, E-paths}
use Rattle.kripke.proofs.Successors.{edge_state}
use Rattle.lists.proofs.Numbers.{lt_or_le}

module _ (S : ℕ) (es : List ℕ) (G : Graph S es) where
  -- an endless path goes through the states
  path_state : (s : ℕ) (π : ℕ → ℕ) → s < S → Endless es s π → (i : ℕ) → π i < S
  path_state s π h p zero = subst (λ (t : ℕ). t < S) (sym p.begins) h
  path_state s π h p (suc i) = edge_state S es G (π i) (π (suc i)) (p.joined i)

  -- a level up to true is reached by true, so a place settles an until with true on the left by its right value alone
  settles : (f : List ℕ) (w s : ℕ) (π : ℕ → ℕ) (i : ℕ) → w ≤ top → s < S → Endless es s π → w ≤ at f (π i) → Settles (everywhere S) f w π i
  settles f w s π i t h p r = record { right = r; left = λ j l. let e = everywhere_at S es G (π j) (path_state s π h p j) in omega arith }

  module _ (f : List ℕ) (w s : ℕ) (t : w ≤ top) (h : s < S) where
    -- EF
    pub some_has : (w ≤ eventually S es G false f s) ↔ SomeHas es s (λ (x : ℕ). w ≤ at f x)
    some_has = (
      λ v. let p = (E-paths S es G (everywhere S) f w s h).0 v in (p.0, p.2, (p.1, p.3.right)),
      λ p. (E-paths S es G (everywhere S) f w s h).1 (p.0, p.2.0, p.1, settles f w s p.0 p.2.0 t h p.1 p.2.1),
    )

    -- where AF misses the level, some endless path never reaches it
    misses : eventually S es G true f s < w → SomeKeeps es s (λ (x : ℕ). at f x < w)
    misses v =
        let p = A-misses S es G (everywhere S) f w s h v in (
          p.0,
          p.1,
          λ i. ⊎_elim (λ (l : at f (p.0 i) < w). l) (λ (l : w ≤ at f (p.0 i)). absurd (p.2 i (settles f w s p.0 i t h p.1 l))) (lt_or_le (at f (p.0 i)) w),
        )

    -- AF
    pub every_has : (w ≤ eventually S es G true f s) ↔ EveryHas es s (λ (x : ℕ). w ≤ at f x)
    every_has = (
      λ v π p. let q = A-paths S es G (everywhere S) f w s h v π p in (q.0, q.1.right),
      λ p. ⊎_elim
          (λ (l : eventually S es G true f s < w). let q = misses l in let r = p q.0 q.1 in absurd (omega (arith, r.1, q.2 r.0)))
          (λ (l : w ≤ eventually S es G true f s). l)
          (lt_or_le (eventually S es G true f s) w),
    )

    -- the level that the opposite row must not reach
    abbrev over : ℕ
    over = suc (top - w)

    -- below the level, the opposite is above
    turns : (π : ℕ → ℕ) (i : ℕ) → Endless es s π → at f (π i) < w → over ≤ at (opposite S f) (π i)
    turns π i p l = let e = opposite_at S es G f (π i) (path_state s π h p i) in omega arith

    clash : (π : ℕ → ℕ) (i : ℕ) → Endless es s π → over ≤ at (opposite S f) (π i) → w ≤ at f (π i) → ⊥
    clash π i p o l = let e = opposite_at S es G f (π i) (path_state s π h p i) in omega arith

    -- EG
    pub some_keeps : (w ≤ always S es G true f s) ↔ SomeKeeps es s (λ (x : ℕ). w ≤ at f x)
    some_keeps = (
      λ v.
          let few = eventually_small S es G true (opposite S f) (small_opposite S es G f) s h in
          let p = A-misses S es G (everywhere S) (opposite S f) over s h (omega arith) in (
            p.0,
            p.1,
            λ i. ⊎_elim
                (λ (l : at f (p.0 i) < w). absurd (p.2 i (settles (opposite S f) over s p.0 i (omega arith) h p.1 (turns p.0 i p.1 l))))
                (λ (l : w ≤ at f (p.0 i)). l)
                (lt_or_le (at f (p.0 i)) w),
          ),
      λ p. ⊎_elim
          (λ (l : eventually S es G true (opposite S f) s < over). omega arith)
          (λ (l : over ≤ eventually S es G true (opposite S f) s). let q = A-paths S es G (everywhere S) (opposite S f) over s h l p.0 p.1 in absurd (clash p.0 q.0 p.1 q.1.right (p.2 q.0)))
          (lt_or_le (eventually S es G true (opposite S f) s) over),
    )

    -- AG
    pub every_keeps : (w ≤ always S es G false f s) ↔ EveryKeeps es s (λ (x : ℕ). w ≤ at f x)
    every_keeps = (
      λ v π p i. ⊎_elim
          (λ (l : at f (π i) < w). let r = (E-paths S es G (everywhere S) (opposite S f) over s h).1 (π, i, p, settles (opposite S f) over s π i (omega arith) h p (turns π i p l)) in absurd (omega arith))
          (λ (l : w ≤ at f (π i)). l)
          (lt_or_le (at f (π i)) w),
      λ p. ⊎_elim
          (λ (l : eventually S es G false (opposite S f) s < over). omega arith)
          (λ (l : over ≤ eventually S es G false (opposite S f) s). let q = (E-paths S es G (everywhere S) (opposite S f) over s h).0 l in absurd (clash q.0 q.1 q.2 q.3.right (p q.0 q.2 q.1)))
          (lt_or_le (eventually S es G false (opposite S f) s) over),
    )
