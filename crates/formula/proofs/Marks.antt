-- What a text begins with: bytes, or a sign of some size; and what is left behind it.
use Prim.Native.Nat.{ℕ, ◌+◌, ◌-◌, ◌<◌}
use mathlib.Core.Path.{◌≡◌, refl, ap, sym, ◌∙◌}
use mathlib.Core.List.{List, ◌++◌}
use mathlib.Core.Bool.{true}
use native.Mathlib.Omega.{arith}
use lib.ListN.{length, take, drop, length-append, length-drop}
use lib.Seq.{take_all}
use Rattle.formula.specs.declared.signs.Sign.{Sign}
use Rattle.model.specs.declared.kinds.Kind.{Kind}
use Rattle.formula.specs.Tree.{Prefix, Pair}
use Rattle.formula.specs.Text.{sign, middle}
use Rattle.formula.specs.Inside.{begins, SignIs, Bracket, opened}
use Rattle.formula.proofs.Beginnings.{begins_with, begins_long}
use Rattle.formula.proofs.Operators.{each_prefix, each_pair, each_bracket}

-- the rest of a text from k on, as it is lent
abbrev pub from : ℕ → List ℕ → List ℕ
from k u = take (length u - k) (drop k u)

pub rest_is : (k : ℕ) (u : List ℕ) → from k u ≡ drop k u
rest_is k u = take_all (length u - k) (drop k u) (omega (arith, length-drop k u))

-- a text is some bytes, and w behind them
pub record There (bytes u w : List ℕ) : Type 0 where
  pub text : u ≡ bytes ++ w
  pub size : length u ≡ length bytes + length w

pub is_there : {bytes u w : List ℕ} → u ≡ bytes ++ w → There bytes u w
is_there {bytes} {u} {w} e = record { text = e; size = ap length e ∙ length-append bytes w }

pub there : (bytes u : List ℕ) (k : ℕ) → k ≡ length bytes → begins bytes u ≡ true → There bytes u (from k u)
there bytes u k h e = is_there (begins_with bytes u e ∙ ap (λ (n : ℕ). bytes ++ drop n u) (sym h) ∙ ap (λ (x : List ℕ). bytes ++ x) (sym (rest_is k u)))

-- a sign of some size, and w behind it
pub record SignThere {A : Type 0} (sign_of : A → List ℕ) (named : A → Kind) (u : List ℕ) (r : Sign) (w : List ℕ) : Type 0 where
  pub which : A
  pub kind : r.kind ≡ named which
  pub there : There (sign_of which) u w

pub sign_there : {A : Type 0} (sign_of : A → List ℕ) (named : A → Kind) (u : List ℕ) (x : Sign)
    → SignIs sign_of named u x → SignThere sign_of named u x (from x.size u)
sign_there sign_of named u x f = record { which = f.which; kind = f.kind; there = there (sign_of f.which) u x.size f.size f.stands }

-- a text that begins with a sign's bytes begins with that sign
pub sign_is : {A : Type 0} (sign_of : A → List ℕ) (named : A → Kind) (u : List ℕ) (a : A) → begins (sign_of a) u ≡ true
    → SignIs sign_of named u (record { kind = named a; size = length (sign_of a) })
sign_is sign_of named u a e = record { which = a; stands = e; kind = refl; size = refl; inside = begins_long (sign_of a) u e }

pub prefix_some : (p : Prefix) → 0 < length (sign p)
prefix_some = each_prefix (λ (p : Prefix). 0 < length (sign p)) (omega arith) (omega arith) (omega arith) (omega arith) (omega arith) (omega arith) (omega arith)

pub opened_some : (b : Bracket) → 0 < length (opened b)
opened_some = each_bracket (λ (b : Bracket). 0 < length (opened b)) (omega arith) (omega arith) (omega arith)

pub middle_some : (q : Pair) → 0 < length (middle q)
middle_some = each_pair (λ (q : Pair). 0 < length (middle q)) (omega arith) (omega arith) (omega arith) (omega arith) (omega arith)
