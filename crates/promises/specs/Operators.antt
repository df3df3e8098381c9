-- Or, implies, AX, EF, AF, EG, AG: what they say of next states and of endless paths, how each is another's dual, and the equations that each one meets.
-- The forms of these statements stand beside the meaning of a node; they hold on any graph and of any rows, those of accepted models among them.
use Rattle.std.specs.Prelude.{◌≡◌, ℕ, ◌<◌, List}
use Rattle.values.specs.Rows.{row_in, row_values}
use Rattle.kripke.specs.Until.{opposite}
use Rattle.kripke.specs.Endless.{SomeHas, EveryHas, SomeKeeps, EveryKeeps}
use Rattle.model.specs.Model.{Model, node_count, kind_at, left_at, right_at}
use Rattle.model.specs.Kinds.{a_node, kind_of, uses}
use Rattle.model.specs.declared.kinds.Kind.TheVariants.{And, Or, Implies, Ex, Ax, Ef, Af, Eg, Ag}
use Rattle.ctl.specs.Nodes.{node_value}
use Rattle.ctl.specs.Operators.{RowFine, OnRows, of_two, Dual, Unfolds, Least, Greatest, Says, SomeNext, EveryNext}
use Rattle.promises.specs.Verdicts.{Accepting, There, written}

-- the row that `judge` wrote for node k
abbrev pub written_row : Model → List ℕ → ℕ → List ℕ
written_row m after k = row_values m.states (row_in m.states after k)

-- What `judge` wrote for a node of any kind with operands is the clause of that kind, of the rows that it wrote for them; and these are rows.
abbrev pub PartsDecide : Type 0
PartsDecide = Accepting (λ m before after v. ((k : ℕ) → k < node_count m.nodes → RowFine m.states (written_row m after k))
    × ((k s : ℕ) → There m k s → (uses (kind_of (kind_at m.nodes k))).0 ≡ a_node
    → written m after k s ≡ node_value m (kind_of (kind_at m.nodes k)) (left_at m.nodes k) (written_row m after (left_at m.nodes k)) (written_row m after (right_at m.nodes k)) s))

-- EX and AX ask some and every next state.
abbrev pub NextStates : Type 0
NextStates = Says Ex SomeNext × Says Ax EveryNext

-- On endless paths from s: EF, some has a place; AF, every one has; EG, on some the value never falls below the level; AG, on none it does.
abbrev pub EndlessPaths : Type 0
EndlessPaths = Says Ef SomeHas × Says Af EveryHas × Says Eg SomeKeeps × Says Ag EveryKeeps

-- AX is not EX not, AG is not EF not, EG is not AF not, or is not and of nots; and the other way round.
abbrev pub Dualities : Type 0
Dualities = Dual Ax Ex × Dual Ex Ax × Dual Ag Ef × Dual Ef Ag × Dual Eg Af × Dual Af Eg × Dual Or And × Dual And Or

-- Implies is (not left) or right.
abbrev pub ImpliesOr : Type 0
ImpliesOr = OnRows (λ m f g s. of_two m Implies f g s ≡ of_two m Or (opposite m.states f) g s)

-- EF f equals f or EX EF f, AF f f or AX AF f, EG f f and EX EG f, AG f f and AX AG f.
abbrev pub Unfoldings : Type 0
Unfoldings = Unfolds Ef Or Ex × Unfolds Af Or Ax × Unfolds Eg And Ex × Unfolds Ag And Ax

-- Of these equations EF and AF are the least solutions, EG and AG the greatest.
abbrev pub LeastAndGreatest : Type 0
LeastAndGreatest = Least Ef Or Ex × Least Af Or Ax × Greatest Eg And Ex × Greatest Ag And Ax
