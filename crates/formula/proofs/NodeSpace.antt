-- Three numbers put into a space one behind the other.
use Prim.Native.Nat.{ℕ, ◌+◌, ◌*◌, ◌<◌}
use mathlib.Core.Path.{◌≡◌, subst}
use mathlib.Core.List.{List, [], ◌∷◌}
use native.Mathlib.Omega.{arith}
use lib.ListN.{length, set, length-set}
use Rattle.lists.specs.Rows.{Put}
use Rattle.lists.proofs.Placed.{put_one, put_then}

pub put_three : (l : List ℕ) (i a b d : ℕ) → i + 2 < length l → Put l (set (set (set l i a) (i + 1) b) (i + 2) d) i (i + 3) (a ∷ b ∷ d ∷ [])
put_three l i a b d h =
    let l₁ = set l i a in
    let l₂ = set l₁ (i + 1) b in
    let m₁ : length l₁ ≡ length l = length-set l i a in
    let m₂ : length l₂ ≡ length l₁ = length-set l₁ (i + 1) b in
    let e₁ : i + 1 + 1 ≡ i + 2 = omega arith in
    let e₂ : i + 2 + 1 ≡ i + 3 = omega arith in
    put_then (put_one l i a (omega arith))
    (put_then (subst (λ (x : ℕ). Put l₁ l₂ (i + 1) x (b ∷ [])) e₁ (put_one l₁ (i + 1) b (omega (arith, m₁))))
    (subst (λ (x : ℕ). Put l₂ (set l₂ (i + 2) d) (i + 2) x (d ∷ [])) e₂ (put_one l₂ (i + 2) d (omega (arith, m₁, m₂)))))

pub put_node : (l : List ℕ) (n a b d : ℕ) → 3 * n + 2 < length l → Put l (set (set (set l (3 * n) a) (3 * n + 1) b) (3 * n + 2) d) (3 * n) (3 * (n + 1)) (a ∷ b ∷ d ∷ [])
put_node l n a b d h =
    let e : 3 * n + 3 ≡ 3 * (n + 1) = omega arith in
    subst (λ (x : ℕ). Put l (set (set (set l (3 * n) a) (3 * n + 1) b) (3 * n + 2) d) (3 * n) x (a ∷ b ∷ d ∷ [])) e (put_three l (3 * n) a b d h)
