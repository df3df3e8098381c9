-- `advance` meets its contract: from the last place back, no larger state yet; then one, and the smallest below it each time.
use Prim.Native.Nat.{◌-◌}
use native.Mathlib.Omega.{arith}
use lib.ListN.{length}
use borrow.Rule.Slice.PartMut.{same_len_mid}
use Rattle.lists.specs.Entries.{at}
use Rattle.paths.proofs.Fits.{picked}
use Rattle.paths.proofs.Advancing.{advancing_found, advancing_in, advancing_step, put_rest, rest_length}
use Rattle.paths.proofs.descent.Descent.advance.Goals as goal

pub overflow_cast-n : goal.overflow_cast-n
overflow_cast-n c =
    let q = c.requires in
    let l = c.loop-i in
    let f = advancing_in c.args.self.now.layers l.invariant q.down (l.i - 1) (omega arith) in
    omega (arith, c.args.self.now.graph.ready.accepted.few, c.args.self.now.layers.few (at l.path (l.i - 1)), l.invariant.size, f.1)

pub descend-requires : goal.descend-requires
descend-requires c =
    let l = c.loop-i in
    let f = advancing_in c.args.self.now.layers l.invariant c.requires.down (l.i - 1) (omega arith) in
    let one = (picked c.args.self.now.graph.ready.accepted.graph c.pick.ensures).is_one _ c.in-Some.is in
    let r = rest_length (l.i - 1) l.path in
    let h = l.invariant.here in
    let z = l.invariant.size in
    record { some = omega arith; fits = omega (arith, one.1) }

pub returns-in-Some : goal.returns-in-Some
returns-in-Some c =
    let l = c.loop-i in
    let f = advancing_in c.args.self.now.layers l.invariant c.requires.down (l.i - 1) (omega arith) in
    let part = c.descend.new.path in
    advancing_found (l.i - 1 - 1) l.invariant (omega arith) c.requires.down (picked c.args.self.now.graph.ready.accepted.graph c.pick.ensures) (omega (arith, f.1, l.invariant.size)) c.in-Some.is c.descend.ensures
    (same_len_mid (l.i - 1) (length l.path - (l.i - 1)) l.path part c.descend.auto.path) (put_rest (l.i - 1) l.path part)

pub loop-i-preserved : goal.loop-i-preserved
loop-i-preserved c =
    let l = c.loop-i in
    let f = advancing_in c.args.self.now.layers l.invariant c.requires.down (l.i - 1) (omega arith) in
    advancing_step (l.i - 1 - 1) l.invariant (omega arith) c.requires.down (picked c.args.self.now.graph.ready.accepted.graph c.pick.ensures) (omega (arith, f.1, l.invariant.size)) c.in_default.is
