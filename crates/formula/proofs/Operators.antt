-- What holds of each prefix, of each pair and of each bracket, gone through one by one.
use mathlib.Core.Path.{◌≡◌, refl}
use Rattle.formula.specs.Tree.{Prefix, NOT, EX, AX, EF, AF, EG, AG, Pair, AND, EU, AU, OR, IMPLIES}
use Rattle.formula.specs.Text.{opening}
use Rattle.formula.specs.Inside.{Bracket, plain, some, every, opened, bracket_of}

pub each_prefix : (P : Prefix → Type 0) → P NOT → P EX → P AX → P EF → P AF → P EG → P AG → (p : Prefix) → P p
each_prefix P a b d e f g h NOT = a
each_prefix P a b d e f g h EX = b
each_prefix P a b d e f g h AX = d
each_prefix P a b d e f g h EF = e
each_prefix P a b d e f g h AF = f
each_prefix P a b d e f g h EG = g
each_prefix P a b d e f g h AG = h

pub each_pair : (P : Pair → Type 0) → P AND → P EU → P AU → P OR → P IMPLIES → (q : Pair) → P q
each_pair P a b d e f AND = a
each_pair P a b d e f EU = b
each_pair P a b d e f AU = d
each_pair P a b d e f OR = e
each_pair P a b d e f IMPLIES = f

pub each_bracket : (P : Bracket → Type 0) → P plain → P some → P every → (b : Bracket) → P b
each_bracket P a b d plain = a
each_bracket P a b d some = b
each_bracket P a b d every = d

-- a pair begins with its bracket
pub opening_opened : (q : Pair) → opening q ≡ opened (bracket_of q)
opening_opened = each_pair (λ (q : Pair). opening q ≡ opened (bracket_of q)) refl refl refl refl refl
