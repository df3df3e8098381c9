-- `exactly` meets its contract. The bytes that are left to compare and the text from here on read as the whole would.
use mathlib.Core.Path.{◌≡◌}
use lib.ListN.{drop}
use Rattle.form.specs.Readers.{exactly}
use Rattle.text.proofs.cursor.Cursor.exactly.Given as goal

abbrev pub invariant-loop-k : goal.invariant-loop-k
invariant-loop-k l = exactly l.bytes (drop l.initial.i l.text) ≡ exactly (drop l.k-index l.bytes) (drop l.i l.text)
