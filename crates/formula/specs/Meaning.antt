-- The meaning of a formula: its value at a state of a model.
use Rattle.std.specs.Prelude.{ℕ, ◌+◌, ◌*◌, min, max, List, true, false}
use Rattle.lists.specs.Entries.{at}
use Rattle.lists.specs.Rows.{tab}
use Rattle.values.specs.Values.{top, neg}
use Rattle.kripke.specs.Until.{next, until, everywhere, opposite}
use Rattle.model.specs.Model.{Model}
use Rattle.formula.specs.Tree.{NOT, EX, AX, EF, AF, EG, AG, AND, EU, AU, OR, IMPLIES, Formula, TRUE, ATOM, one, two}

-- one clause a kind; EX is the greatest value of f among the successors, E and A go over the walks from s; AX, EG, AG are not of EX, AF, EF of not f
unfoldable pub value : Model → Formula → ℕ → ℕ
value m TRUE s = top
value m (ATOM a) s = at m.labels (s * m.atoms + a)
value m (one NOT f) s = neg (value m f s)
value m (one EX f) s = next false m.transitions (tab (value m f) m.states) s
value m (one AX f) s = neg (next false m.transitions (opposite m.states (tab (value m f) m.states)) s)
value m (one EF f) s = until false m.transitions (everywhere m.states) (tab (value m f) m.states) m.states s
value m (one AF f) s = until true m.transitions (everywhere m.states) (tab (value m f) m.states) m.states s
value m (one EG f) s = neg (until true m.transitions (everywhere m.states) (opposite m.states (tab (value m f) m.states)) m.states s)
value m (one AG f) s = neg (until false m.transitions (everywhere m.states) (opposite m.states (tab (value m f) m.states)) m.states s)
value m (two AND f g) s = min (value m f s) (value m g s)
value m (two EU f g) s = until false m.transitions (tab (value m f) m.states) (tab (value m g) m.states) m.states s
value m (two AU f g) s = until true m.transitions (tab (value m f) m.states) (tab (value m g) m.states) m.states s
value m (two OR f g) s = max (value m f s) (value m g s)
value m (two IMPLIES f g) s = max (neg (value m f s)) (value m g s)

-- at each state of the model
abbrev pub value_row : Model → Formula → List ℕ
value_row m f = tab (value m f) m.states
