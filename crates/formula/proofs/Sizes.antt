-- How long a formula is: it has a node, three numbers a node, and no more than six signs a node.
use Prim.Native.Nat.{ℕ, ◌+◌, ◌*◌, ◌<◌, ◌≤◌}
use mathlib.Core.Path.{◌≡◌, refl, ◌∙◌}
use mathlib.Core.List.{[], ◌∷◌, ◌++◌}
use native.Mathlib.Omega.{arith}
use lib.ListN.{length, length-append}
use Rattle.values.proofs.Decimals.{decimal_short}
use Rattle.formula.specs.Tree.{Prefix, Pair, Formula, TRUE, ATOM, one, two, size}
use Rattle.formula.specs.Text.{sign, opening, middle, closing, text_of}
use Rattle.formula.specs.Nodes.{prefix_kind, pair_kind, root_from, nodes_from}
use Rattle.formula.proofs.Operators.{each_prefix, each_pair}

pub size_some : (f : Formula) → 0 < size f
unfolding size
size_some TRUE = omega arith
size_some (ATOM a) = omega arith
size_some (one p f) = omega arith
size_some (two q f g) = omega arith

pub nodes_length : (n : ℕ) (f : Formula) → length (nodes_from n f) ≡ 3 * size f
unfolding size nodes_from
nodes_length n TRUE = refl
nodes_length n (ATOM a) = refl
nodes_length n (one p f) = let l = length-append (nodes_from n f) (prefix_kind p ∷ root_from n f ∷ 0 ∷ []) in let h = nodes_length n f in omega (arith, l, h)
nodes_length n (two q f g) =
    let last = pair_kind q ∷ root_from n f ∷ root_from (n + size f) g ∷ [] in
    let l = length-append (nodes_from n f) (nodes_from (n + size f) g ++ last) in
    let m = length-append (nodes_from (n + size f) g) last in
    let h = nodes_length n f in
    let k = nodes_length (n + size f) g in
    omega (arith, l, m, h, k)

pub sign_short : (p : Prefix) → length (sign p) ≤ 6
sign_short = each_prefix (λ (p : Prefix). length (sign p) ≤ 6) (omega arith) (omega arith) (omega arith) (omega arith) (omega arith) (omega arith) (omega arith)

pub signs_short : (q : Pair) → length (opening q) + length (middle q) + length closing ≤ 6
signs_short = each_pair (λ (q : Pair). length (opening q) + length (middle q) + length closing ≤ 6) (omega arith) (omega arith) (omega arith) (omega arith) (omega arith)

pub length_prefixed : (p : Prefix) (f : Formula) → length (text_of (one p f)) ≡ length (text_of f) + length (sign p)
unfolding text_of
length_prefixed p f = length-append (sign p) (text_of f) ∙ omega arith

pub length_joined : (q : Pair) (f g : Formula)
    → length (text_of (two q f g)) ≡ length (text_of f) + length (text_of g) + (length (opening q) + length (middle q) + length closing)
unfolding text_of
length_joined q f g = simp length-append (omega arith)

-- no node has more than six signs
pub text_short : (f : Formula) → length (text_of f) ≤ 6 * size f
unfolding text_of size
text_short TRUE = omega arith
text_short (ATOM a) = omega (arith, decimal_short a)
text_short (one p f) = omega (arith, length_prefixed p f, sign_short p, text_short f)
text_short (two q f g) = omega (arith, length_joined q f g, signs_short q, text_short f, text_short g)
