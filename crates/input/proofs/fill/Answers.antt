use Rattle.std.proofs.Common.{rules}
use Rattle.input.proofs.Filling.{filled_more}
use Rattle.input.proofs.fill.Goals as goal

pub loop-n-preserved : goal.loop-n-preserved
loop-n-preserved g c =
    let read = c.in_ok-more.ensures in
    (search rules, read.within, filled_more _ _ _ c.loop-n.space c.read_behind.new.space c.loop-n.n c.in_ok-more.more read.front c.loop-n.invariant.2 read.given)
