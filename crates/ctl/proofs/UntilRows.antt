-- Rounds of an until: what a round writes is the value over walks of one state more, and a round that changes nothing was the last.
use mathlib.Core.Path.{◌≡◌, sym, ap, ◌∙◌, subst}
use Prim.Native.Nat.{ℕ, zero, suc, ◌+◌, ◌-◌, ◌≤◌, ◌<◌}
use mathlib.Core.List.{List}
use mathlib.Core.Bool.{Bool}
use native.Mathlib.Omega.{arith}
use native.Mathlib.Numerals.{add-one}
use Rattle.ctl.specs.Inside.{stepped}
use Rattle.kripke.specs.Transitions.{Graph, succs}
use Rattle.kripke.specs.Until.{next, step, until}
use Rattle.values.specs.Values.{choose}
use Rattle.lists.specs.Choosing.{best}
use Rattle.lists.specs.Entries.{at}
use Rattle.lists.specs.Rows.{Filled}
use Rattle.kripke.proofs.Rounds.{rests_after}
use Rattle.kripke.proofs.Steps.{until_one, until_step}
use Rattle.kripke.proofs.Successors.{succs_states}
use Rattle.lists.proofs.Entries.{map_all}
use Rattle.lists.proofs.Rows.{filled_again, filled_at, filled_same}

module _ (all : Bool) (S : ℕ) (es : List ℕ) (G : Graph S es) (L R : List ℕ) where
  -- the right row is the value over walks of one state
  pub right_row : (d now : List ℕ) → Filled (at R) S d now → Filled (until all es L R 1) S d now
  right_row d now = filled_same (at R) (until all es L R 1) S d now (λ s h. sym (until_one all es L R s))

  stepped_row : (k : ℕ) (d row : List ℕ) → Filled (until all es L R (suc k)) S d row → (s : ℕ) → s < S → stepped all es L R row s ≡ until all es L R (suc (suc k)) s
  unfolding stepped next
  stepped_row k d row e s h =
      ap (λ (vs : List ℕ). step (at L s) (at R s) (best (choose all) vs)) (map_all (λ (t : ℕ). t < S) (at row) (until all es L R (suc k)) (filled_at (until all es L R (suc k)) S d row e) (succs es s) (succs_states S es G s))
      ∙ sym (until_step all S es G L R k s h)

  -- one round more
  pub round_row : (k : ℕ) (d row row' : List ℕ) → 0 < k → Filled (until all es L R k) S d row → Filled (stepped all es L R row) S row row' → Filled (until all es L R (k + 1)) S d row'
  round_row zero d row row' p e e' = absurd (omega arith)
  round_row (suc k) d row row' p e e' =
      subst (λ (n : ℕ). Filled (until all es L R n) S d row') (sym (add-one (suc k)))
      (filled_again (until all es L R (suc (suc k))) (until all es L R (suc k)) S d row row' e (filled_same (stepped all es L R row) (until all es L R (suc (suc k))) S row row' (stepped_row k d row e) e'))

  -- rows that are equal once stay equal
  pub rested : (k : ℕ) (d row : List ℕ) → 0 < k → k ≤ S → Filled (until all es L R k) S d row → Filled (until all es L R (k + 1)) S d row → Filled (until all es L R S) S d row
  rested zero d row p h e e' = absurd (omega arith)
  rested (suc k) d row p h e e' =
      let W : ℕ → ℕ → ℕ = λ n s. until all es L R (suc n) s in
      let still : (s : ℕ) → s < S → W k s ≡ W (suc k) s = λ s l. sym (filled_at (until all es L R (suc k)) S d row e s l) ∙ filled_at (until all es L R (suc k + 1)) S d row e' s l ∙ ap (λ (n : ℕ). until all es L R n s) (add-one (suc k)) in
      let last : suc (k + (S - suc k)) ≡ S = omega arith in
      filled_same (until all es L R (suc k)) (until all es L R S) S d row (λ s l. rests_after S es G W (λ s vs. step (at L s) (at R s) (best (choose all) vs)) (until_step all S es G L R) (S - suc k) k still s l ∙ ap (λ (n : ℕ). until all es L R n s) last) e
