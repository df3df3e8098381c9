-- Whether a text begins with some bytes: and what a text is that does or doesn't.
use Prim.Native.Nat.{ℕ, ◌+◌, ◌≤◌}
use mathlib.Core.Path.{◌≡◌, refl, ap, sym, ◌∙◌}
use mathlib.Core.List.{List, [], ◌∷◌, ◌++◌}
use mathlib.Core.Bool.{true, true≢false}
use lib.ListN.{length, drop, length-append}
use native.Mathlib.Omega.{arith}
use lib.Dec.{eqb}
use borrow.Author.Tests.{eq-eqb, eqb-true}
use Rattle.lists.proofs.Tests.{and_holds, and_parts}
use Rattle.formula.specs.Inside.{begins}

pub begins_own : (k v : List ℕ) → begins k (k ++ v) ≡ true
begins_own [] v = refl
begins_own (c ∷ cs) v = and_holds (eqb c c) (begins cs (cs ++ v)) (eq-eqb c c refl) ∙ begins_own cs v

pub begins_with : (k u : List ℕ) → begins k u ≡ true → u ≡ k ++ drop (length k) u
begins_with [] u e = refl
begins_with (c ∷ cs) [] e = absurd (true≢false (sym e))
begins_with (c ∷ cs) (d ∷ u) e =
    let p = and_parts (eqb c d) (begins cs u) e in
    let h : c ≡ d = eqb-true c d p.0 in
    let t : u ≡ cs ++ drop (length cs) u = begins_with cs u p.1 in
    cc (h, t)

pub begins_long : (k u : List ℕ) → begins k u ≡ true → length k ≤ length u
begins_long k u e =
    let l : length u ≡ length k + length (drop (length k) u) = ap length (begins_with k u e) ∙ length-append k (drop (length k) u) in
    omega (arith, l)
