-- The text of a formula, as bytes: T, p0, !f, EX f, AX f, EF f, AF f, EG f, AG f, (f&g), (f|g), (f>g), E(f U g), A(f U g).
use Rattle.std.specs.Prelude.{ℕ, List, [], ◌∷◌, ◌++◌}
use Rattle.values.specs.Signs.{decimal}
use Rattle.formula.specs.Tree.{Prefix, NOT, EX, AX, EF, AF, EG, AG, Pair, AND, EU, AU, OR, IMPLIES, Formula, TRUE, ATOM, one, two}

-- T
abbrev pub constant : List ℕ
constant = 84 ∷ []

-- p, before an atom's number
abbrev pub letter : ℕ
letter = 112

-- ! or two letters and a space
abbrev pub sign : Prefix → List ℕ
sign NOT = 33 ∷ []
sign EX = 69 ∷ 88 ∷ 32 ∷ []
sign AX = 65 ∷ 88 ∷ 32 ∷ []
sign EF = 69 ∷ 70 ∷ 32 ∷ []
sign AF = 65 ∷ 70 ∷ 32 ∷ []
sign EG = 69 ∷ 71 ∷ 32 ∷ []
sign AG = 65 ∷ 71 ∷ 32 ∷ []

-- ( or E( or A(
abbrev pub opening : Pair → List ℕ
opening AND = 40 ∷ []
opening EU = 69 ∷ 40 ∷ []
opening AU = 65 ∷ 40 ∷ []
opening OR = 40 ∷ []
opening IMPLIES = 40 ∷ []

-- & or | or > or a space, U and a space
abbrev pub middle : Pair → List ℕ
middle AND = 38 ∷ []
middle EU = 32 ∷ 85 ∷ 32 ∷ []
middle AU = 32 ∷ 85 ∷ 32 ∷ []
middle OR = 124 ∷ []
middle IMPLIES = 62 ∷ []

-- )
abbrev pub closing : List ℕ
closing = 41 ∷ []

-- T, or p and the atom's number, or the parts with these signs
unfoldable pub text_of : Formula → List ℕ
text_of TRUE = constant
text_of (ATOM a) = letter ∷ decimal a
text_of (one p f) = sign p ++ text_of f
text_of (two q f g) = opening q ++ (text_of f ++ (middle q ++ (text_of g ++ closing)))
