-- `put_letters` meets its contract: the letters are put entry by entry.
use mathlib.Core.Path.{◌≡◌}
use Prim.Native.Nat.{ℕ, ◌+◌}
use lib.ListN.{length}
use Rattle.lists.specs.Entries.{at}
use Rattle.lists.specs.Rows.{Put, tab}
use Rattle.answer.specs.Lines.{letter_of}
use Rattle.answer.proofs.put.put_letters.Given as goal

abbrev pub invariant-loop-i : goal.invariant-loop-i
invariant-loop-i l = (length l.buffer ≡ length l.initial.buffer) × Put l.initial.buffer l.buffer l.to (l.to + l.i) (tab (λ (k : ℕ). letter_of (at l.values k)) l.i)
