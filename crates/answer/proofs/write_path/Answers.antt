-- `write_path` meets its contract: the key, and the entries up to the line feed.
use native.Mathlib.Omega.{arith}
use Rattle.answer.specs.Lines.{path_line}
use Rattle.lists.proofs.Placed.{put_then}
use Rattle.answer.proofs.Entries.{entries_few}
use Rattle.answer.proofs.Promises.{line_put, line_short, line_some}
use Rattle.answer.proofs.Sizes.{path_size, path_right}
use Rattle.answer.proofs.write_path.Goals as goal

pub overflow_add-size : goal.overflow_add-size
overflow_add-size c = omega (arith, c.entries_size-size.ensures, entries_few c.args.path.now)

pub returns-then-buffer-size : goal.returns-then-buffer-size
returns-then-buffer-size c = line_some _ (path_right c.args.path.now (omega arith) (omega arith)) (line_short _ _ (omega (arith, c.entries_size-size.ensures, path_size c.args.path.now)))

pub returns : goal.returns
unfolding path_line
returns c = line_some _ (path_right c.args.path.now (omega arith) (omega arith)) (line_put (put_then c.put_bytes-a.ensures c.put_entries-end.ensures) (omega (arith, c.entries_size-size.ensures, path_size c.args.path.now)))
