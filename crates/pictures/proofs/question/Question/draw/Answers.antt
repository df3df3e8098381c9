-- `draw` meets its contract: by the mark of the start, the room, and the walk, on which no state is passed twice.
use native.Mathlib.Omega.{arith}
use Prim.Native.Nat.{ℕ}
use mathlib.Core.Path.{◌≡◌, refl}
use Rattle.std.specs.Prelude.{Option, Some, None}
use Rattle.std.specs.Option.{IsSome}
use Rattle.values.specs.Limits.{most_states}
use Rattle.pictures.proofs.Marking.{led_none}
use Rattle.pictures.proofs.OnWalk.{going_back, going_falls, going_on, going_state, going_steady, going_way, on_start}
use Rattle.pictures.proofs.question.Question.draw.Goals as goal

there : (o : Option ℕ) → (o ≡ None → ⊥) → IsSome o
there None n = absurd (n refl)
there (Some t) n = refl

pub mark-requires : goal.mark-requires
mark-requires c = led_none _ most_states

pub loop-s-init : goal.loop-s-init
loop-s-init c = let q = c.args.self.now.graph.ready.accepted in record { marks = c.mark.new.marks; marked = c.mark.ensures.marked; follows = c.mark.ensures.noted; begun = c.if-not-marks-start.false; walk = on_start _ _ _ _ _ c.if-path-self.false q.few (c.requires, c.if-not-marks-start.false) }

pub overflow_cast-path : goal.overflow_cast-path
overflow_cast-path c = let G = c.args.self.now.graph.ready.accepted in let q = going_steady _ _ _ _ _ _ _ c.if-path-self.false _ _ _ _ c.loop-s.invariant in omega (arith, q.here, G.few)

pub bounds-path-n : goal.bounds-path-n
bounds-path-n c = let G = c.args.self.now.graph.ready.accepted in let q = going_steady _ _ _ _ _ _ _ c.if-path-self.false _ _ _ _ c.loop-s.invariant in omega (arith, q.left_over, q.size, c.if-path-self.false)

pub overflow_cast-places : goal.overflow_cast-places
overflow_cast-places c = let G = c.args.self.now.graph.ready.accepted in let q = going_steady _ _ _ _ _ _ _ c.if-path-self.false _ _ _ _ c.loop-s.invariant in omega (arith, q.left_over, G.few)

pub offset_bounds-places-s : goal.offset_bounds-places-s
offset_bounds-places-s c = let G = c.args.self.now.graph.ready.accepted in let q = going_steady _ _ _ _ _ _ _ c.if-path-self.false _ _ _ _ c.loop-s.invariant in omega (arith, q.here, G.few)

pub bounds-places-s : goal.bounds-places-s
bounds-places-s c = let G = c.args.self.now.graph.ready.accepted in let q = going_steady _ _ _ _ _ _ _ c.if-path-self.false _ _ _ _ c.loop-s.invariant in omega (arith, q.here, G.few)

pub bounds-self-s : goal.bounds-self-s
bounds-self-s c = let G = c.args.self.now.graph.ready.accepted in let q = going_steady _ _ _ _ _ _ _ c.if-path-self.false _ _ _ _ c.loop-s.invariant in omega (arith, q.here, G.few)

pub returns-then-self-s-eq0 : goal.returns-then-self-s-eq0
returns-then-self-s-eq0 c = going_falls _ _ _ _ _ _ _ c.if-path-self.false _ _ _ _ c.loop-s.invariant c.if-self-s-eq0.true

pub offset_bounds-ways-s : goal.offset_bounds-ways-s
offset_bounds-ways-s c = let G = c.args.self.now.graph.ready.accepted in let q = going_steady _ _ _ _ _ _ _ c.if-path-self.false _ _ _ _ c.loop-s.invariant in omega (arith, q.here, G.few)

pub bounds-ways-s : goal.bounds-ways-s
bounds-ways-s c = let G = c.args.self.now.graph.ready.accepted in let q = going_steady _ _ _ _ _ _ _ c.if-path-self.false _ _ _ _ c.loop-s.invariant in omega (arith, q.here, G.few)

pub unwrap-s-requires : goal.unwrap-s-requires
unwrap-s-requires c = there _ (going_way _ _ _ _ _ _ _ c.if-path-self.false _ _ _ _ c.loop-s.invariant c.if-self-s-eq0.false)

pub offset_bounds-places-s-in-loop-s : goal.offset_bounds-places-s-in-loop-s
offset_bounds-places-s-in-loop-s c = omega (arith, c.args.self.now.graph.ready.accepted.few, going_state _ _ _ _ _ _ _ c.if-path-self.false _ _ _ _ c.loop-s.invariant c.if-self-s-eq0.false _ c.unwrap-s.ensures)

pub bounds-places-s-in-loop-s : goal.bounds-places-s-in-loop-s
bounds-places-s-in-loop-s c = omega (arith, c.args.self.now.graph.ready.accepted.few, going_state _ _ _ _ _ _ _ c.if-path-self.false _ _ _ _ c.loop-s.invariant c.if-self-s-eq0.false _ c.unwrap-s.ensures)

pub returns-in-Some : goal.returns-in-Some
returns-in-Some c = going_back _ _ _ _ _ _ _ c.if-path-self.false _ _ _ _ c.loop-s.invariant c.if-self-s-eq0.false _ c.unwrap-s.ensures _ c.in-Some.is

pub loop-s-smaller : goal.loop-s-smaller
loop-s-smaller c = let q = going_steady _ _ _ _ _ _ _ c.if-path-self.false _ _ _ _ c.loop-s.invariant in omega (arith, q.left_over)

pub loop-s-preserved : goal.loop-s-preserved
loop-s-preserved c = going_on _ _ _ _ _ _ _ c.if-path-self.false _ _ _ _ c.loop-s.invariant c.if-self-s-eq0.false _ c.unwrap-s.ensures c.in_default.is
