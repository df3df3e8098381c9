-- `place_of` meets its contract: the first sign that is the byte.
use mathlib.Core.Path.{◌≡◌, ◌∙◌}
use Prim.Native.Nat.{ℕ}
use borrow.Author.Tests.{tests}
use Rattle.std.proofs.Common.{rules}
use Rattle.std.proofs.lemmas.Iterator.{IsFirst-from_position, YieldsList-from_slice}
use Rattle.text.proofs.Places.{place_found}
use Rattle.text.proofs.cursor.place_of.Goals as goal

pub returns : goal.returns
returns c =
    let b = c.args.b in
    c.unwrap_or.ensures
    ∙ place_found c.args.signs.now b _
    (IsFirst-from_position _ _ _ (λ (g : ℕ). g ≡ b) (λ (g : ℕ). g ≡ b → ⊥) c.position.ensures.ran (YieldsList-from_slice c.args.signs.now cc) (λ x q k. search (rules, tests)) (λ x q k. search (rules, tests)))
