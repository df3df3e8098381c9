-- `some_no_verdict` meets its contract: a search for the first byte of which no verdict is made.
use Rattle.std.proofs.Common.{◌≡◌, ℕ, false}
use lib.Dec.{ltb}
use Rattle.values.specs.Values.{top}
use Rattle.lists.specs.Entries.{any_below, at}
use Rattle.values.proofs.rows.some_no_verdict.Given as goal

abbrev pub invariant-loop-number : goal.invariant-loop-number
invariant-loop-number l = any_below (λ (j : ℕ). ltb top (at l.list j)) l.number-index ≡ false
