-- Cases of or, implies, AX, EF, AF, EG, AG that a wrong reading would break.
use Rattle.std.specs.Prelude.{ℕ, List, [], ◌∷◌}
use Rattle.lists.specs.Entries.{All}
use Rattle.values.specs.declared.refusal.Refusal.TheVariants.{Kind, Operand}
use Rattle.model.specs.Model.{Model, as_model}
use Rattle.promises.specs.Nights.{Case, row, refused, Holds, last_node}

-- 0→0, 0→1, 1→1, p with these labels; the nodes are p, AX p, EF p, AF p, EG p, AG p
abbrev pub branching : List ℕ → Model
branching labels = as_model 2 1 labels (1 ∷ 0 ∷ []) (0 ∷ 0 ∷ 0 ∷ 1 ∷ 1 ∷ 1 ∷ []) (1 ∷ 0 ∷ 0 ∷ 9 ∷ 0 ∷ 0 ∷ 10 ∷ 0 ∷ 0 ∷ 11 ∷ 0 ∷ 0 ∷ 12 ∷ 0 ∷ 0 ∷ 13 ∷ 0 ∷ 0 ∷ [])

-- two states in a ring, p0 true at 0 and unknown at 1, p1 false at both; the nodes are p0, p1, p0 or p1, p0 implies p1, p1 implies p0
abbrev pub joining : Model
joining = as_model 2 2 (2 ∷ 0 ∷ 1 ∷ 0 ∷ []) (1 ∷ 0 ∷ []) (0 ∷ 1 ∷ 1 ∷ 0 ∷ []) (1 ∷ 0 ∷ 0 ∷ 1 ∷ 1 ∷ 0 ∷ 7 ∷ 0 ∷ 1 ∷ 8 ∷ 0 ∷ 1 ∷ 8 ∷ 1 ∷ 0 ∷ [])

abbrev pub kinds : List Case
kinds =
    -- p false at 0 and true at 1: EF alone is true at 0
    row (branching (0 ∷ 2 ∷ [])) 2 (2 ∷ 2 ∷ [])
    ∷ row (branching (0 ∷ 2 ∷ [])) 3 (0 ∷ 2 ∷ [])
    ∷ row (branching (0 ∷ 2 ∷ [])) 4 (0 ∷ 2 ∷ [])
    -- p true at 0 and false at 1: AX and AG alone are false at 0
    ∷ row (branching (2 ∷ 0 ∷ [])) 1 (0 ∷ 0 ∷ [])
    ∷ row (branching (2 ∷ 0 ∷ [])) 3 (2 ∷ 0 ∷ [])
    ∷ row (branching (2 ∷ 0 ∷ [])) 4 (2 ∷ 0 ∷ [])
    ∷ row (branching (2 ∷ 0 ∷ [])) 5 (0 ∷ 0 ∷ [])
    -- or is the greater; implies goes from left to right
    ∷ row joining 2 (2 ∷ 1 ∷ [])
    ∷ row joining 3 (0 ∷ 1 ∷ [])
    ∷ row joining 4 (2 ∷ 2 ∷ [])
    -- 13 is the greatest kind; AX leaves its right number, or uses it
    ∷ refused (last_node (14 ∷ 0 ∷ 0 ∷ [])) Kind
    ∷ refused (last_node (9 ∷ 0 ∷ 1 ∷ [])) Operand
    ∷ refused (last_node (7 ∷ 0 ∷ 1 ∷ [])) Operand
    ∷ []

-- every one of them holds
abbrev pub KindNights : Type 0
KindNights = All Holds kinds
