-- `lay_symbols` meets its contract. The loop that lays values, which are the places of the text's bytes among the signs.
use Prim.Native.Nat.{ℕ}
use mathlib.Core.List.{List, map}
use lib.ListN.{drop}
use Rattle.form.specs.Readers.{place_of}
use Rattle.lists.proofs.Laid.{Laying}
use Rattle.text.proofs.tables.lay_symbols.Given as goal

abbrev places : List ℕ → List ℕ → ℕ → List ℕ
places signs text from = map (place_of signs) (drop from text)

abbrev pub invariant-loop-j : goal.invariant-loop-j
invariant-loop-j l = Laying (places l.signs l.text l.from) l.n l.to l.initial.out l.out l.j
