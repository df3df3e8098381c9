-- `put_entries` meets its contract: each entry is put behind the one before, up to the line feed.
use mathlib.Core.Path.{◌≡◌}
use lib.ListN.{length}
use Rattle.answer.proofs.Entries.{EntriesPut}
use Rattle.answer.proofs.put.put_entries.Given as goal

abbrev pub invariant-loop-i : goal.invariant-loop-i
invariant-loop-i l = (length l.buffer ≡ length l.initial.buffer) × EntriesPut l.path l.initial.buffer l.buffer l.to l.at l.i
