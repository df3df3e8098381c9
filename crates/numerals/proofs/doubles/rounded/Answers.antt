-- `rounded` meets its contract: one multiplication or one division of exact doubles.
use mathlib.Core.Path.{◌≡◌, ap, sym, ◌∙◌}
use mathlib.Core.Logic.{⊎_elim}
use Prim.Native.Nat.{ℕ, ◌^◌}
use native.Mathlib.Nat.{mul-one, one-le-pow}
use native.Mathlib.Omega.{arith}
use lib.Ieee.{binary64, round}
use Rattle.numerals.specs.Doubles.{nearest}
use Rattle.numerals.proofs.Rounding.{product, quotient}
use Rattle.numerals.proofs.doubles.rounded.Goals as goal

pub returns-then-power-eq0 : goal.returns-then-power-eq0
unfolding nearest
returns-then-power-eq0 c =
    let a = c.args in
    product binary64 a.negative _ _ a.n (10 ^ a.power.up) c.exact-x.ensures c.ten.ensures
    ∙ ap (nearest a.negative a.n a.power.up) (sym c.if-power-eq0.true)

pub returns : goal.returns
unfolding nearest
returns c =
    let a = c.args in
    let up : a.power.up ≡ 0 = ⊎_elim (λ (e : a.power.up ≡ 0). e) (λ (e : a.power.down ≡ 0). absurd (c.if-power-eq0.false e)) c.requires.3 in
    quotient binary64 a.negative _ _ a.n (10 ^ a.power.down) (one-le-pow a.power.down 10 (omega arith)) c.exact-x.ensures c.ten-2.ensures
    ∙ ap (λ (m : ℕ). round binary64 a.negative m (10 ^ a.power.down)) (sym (mul-one a.n))
    ∙ ap (λ (u : ℕ). nearest a.negative a.n u a.power.down) (sym up)
