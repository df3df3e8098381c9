-- The meaning of a node: its value at a state, from its operands' rows.
use Rattle.std.specs.Prelude.{ℕ, ◌+◌, ◌*◌, min, max, List, true, false}
use Rattle.lists.specs.Entries.{at}
use Rattle.lists.specs.Rows.{tab}
use Rattle.values.specs.Values.{top, neg}
use Rattle.kripke.specs.Until.{next, until, everywhere, opposite}
use Rattle.model.specs.Model.{Model}
use Rattle.model.specs.declared.kinds.Kind.{Kind}
use Rattle.model.specs.declared.kinds.Kind.TheVariants.{True, Atom, Not, And, Ex, Eu, Au, Or, Implies, Ax, Ef, Af, Eg, Ag}

-- the value at a state of a node with this left number, from the rows of its operands; AX is not EX not, EF and AF are E and A with true on
-- the left, EG is not AF not, AG is not EF not
unfoldable pub node_value : Model → Kind → ℕ → List ℕ → List ℕ → ℕ → ℕ
node_value m True a L R s = top
node_value m Atom a L R s = at m.labels (s * m.atoms + a)
node_value m Not a L R s = neg (at L s)
node_value m And a L R s = min (at L s) (at R s)
node_value m Ex a L R s = next false m.transitions L s
node_value m Eu a L R s = until false m.transitions L R m.states s
node_value m Au a L R s = until true m.transitions L R m.states s
node_value m Or a L R s = max (at L s) (at R s)
node_value m Implies a L R s = max (neg (at L s)) (at R s)
node_value m Ax a L R s = neg (next false m.transitions (opposite m.states L) s)
node_value m Ef a L R s = until false m.transitions (everywhere m.states) L m.states s
node_value m Af a L R s = until true m.transitions (everywhere m.states) L m.states s
node_value m Eg a L R s = neg (until true m.transitions (everywhere m.states) (opposite m.states L) m.states s)
node_value m Ag a L R s = neg (until false m.transitions (everywhere m.states) (opposite m.states L) m.states s)

-- one value a state
unfoldable pub node_row : Model → Kind → ℕ → List ℕ → List ℕ → List ℕ
node_row m k a L R = tab (node_value m k a L R) m.states
