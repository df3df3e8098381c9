-- `entries_size` meets its contract: the bytes are counted entry by entry.
use Rattle.answer.proofs.Entries.{Counted}
use Rattle.answer.proofs.put.entries_size.Given as goal

abbrev pub invariant-loop-state : goal.invariant-loop-state
invariant-loop-state l = Counted l.path l.state-index l.size
