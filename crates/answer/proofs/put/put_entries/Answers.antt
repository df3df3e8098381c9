-- `put_entries` meets its contract: each entry is put behind the one before, up to the line feed.
use native.Mathlib.Omega.{arith}
use Rattle.answer.proofs.Entries.{entries_room, entries_more, entries_all}
use Rattle.answer.proofs.put.put_entries.Goals as goal

pub put_decimal-behind-requires : goal.put_decimal-behind-requires
put_decimal-behind-requires c = let l = c.loop-i in omega (arith, c.requires, entries_room c.args.path.now c.args.buffer.now l.buffer c.args.to l.at l.i (omega arith) l.invariant.1)

pub put_byte-at-requires : goal.put_byte-at-requires
put_byte-at-requires c = let l = c.loop-i in omega (arith, c.requires, c.put_decimal-behind.ensures.ends, entries_room c.args.path.now c.args.buffer.now l.buffer c.args.to l.at l.i (omega arith) l.invariant.1)

pub loop-i-preserved : goal.loop-i-preserved
loop-i-preserved c = let l = c.loop-i in (omega arith, entries_more (omega arith) l.invariant.1 c.put_decimal-behind.ensures c.stop_before.ensures c.put_byte-at.ensures)

pub returns : goal.returns
returns c = entries_all _ _ _ _ _ _ (omega arith) c.loop-i.invariant.1
