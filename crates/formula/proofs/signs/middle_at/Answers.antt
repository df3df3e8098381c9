-- `middle_at` meets its contract, bracket by bracket.
use mathlib.Core.Path.{◌≡◌, refl, sym, ◌∙◌}
use Prim.Native.Nat.{ℕ}
use native.Mathlib.Omega.{arith}
use Rattle.std.specs.Prelude.{Some}
use Rattle.model.specs.Kinds.{kind_of}
use Rattle.formula.specs.Tree.{EU, AU}
use Rattle.formula.specs.Text.{middle}
use Rattle.formula.specs.Inside.{Bracket, bracket_kind, MiddleAt}
use Rattle.formula.proofs.Beginnings.{begins_long}
use Rattle.formula.proofs.Operators.{each_bracket}
use Rattle.formula.proofs.signs.middle_at.Goals as goal

pub returns-in-And : goal.returns-in-And
unfolding kind_of
returns-in-And c =
    let a = c.args in
    each_bracket (λ (b : Bracket). a.bracket ≡ bracket_kind b → MiddleAt b a.rest.now c.join_at.result)
    (λ e. c.join_at.ensures)
    (λ e. absurd (let z : ◌≡◌ {A = ℕ} 0 1 = cc in omega arith))
    (λ e. absurd (let z : ◌≡◌ {A = ℕ} 0 1 = cc in omega arith))

pub returns-then-starts_with : goal.returns-then-starts_with
unfolding kind_of
returns-then-starts_with c =
    let a = c.args in
    let until = sym c.starts_with.ensures.value ∙ c.if-starts_with.true in
    each_bracket (λ (b : Bracket). a.bracket ≡ bracket_kind b → MiddleAt b a.rest.now (Some (record { kind = a.bracket; size = 3 })))
    (λ e. absurd (c.in_default.not-And e))
    (λ e. record { which = record { pair = EU; within = refl }; stands = until; kind = e; size = refl; inside = begins_long (middle EU) a.rest.now until })
    (λ e. record { which = record { pair = AU; within = refl }; stands = until; kind = e; size = refl; inside = begins_long (middle EU) a.rest.now until })
