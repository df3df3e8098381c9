-- `is_unjoined` meets its contract: the first entry, or the answer of `joined`.
use mathlib.Core.Path.{sym}
use native.Mathlib.Omega.{arith}
use Rattle.paths.proofs.Breaks.{unjoined_first, unjoined_later}
use Rattle.paths.proofs.faults.is_unjoined.Goals as goal

pub returns-then-i-eq0 : goal.returns-then-i-eq0
returns-then-i-eq0 c = sym (unjoined_first _ _ _ c.if-i-eq0.true)

pub returns : goal.returns
returns c = sym (unjoined_later _ _ _ _ (omega arith) c.joined.ensures)
