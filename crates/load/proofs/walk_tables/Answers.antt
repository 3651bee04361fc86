use native.Mathlib.Omega.{arith}
use mathlib.Core.Path.{◌≡◌, refl, ap, ◌∙◌}
use Prim.Native.Nat.{ℕ, ◌+◌, ◌*◌}
use lib.ListN.{get_or}
use Rattle.load.proofs.Going.{starts, node_low, event_place, event_low, goes_on, stops, ends}
use Rattle.load.proofs.walk_tables.Goals as goal

pub loop-j-init : goal.loop-j-init
loop-j-init c = starts c.requires.0

pub offset_bounds-counts-v : goal.offset_bounds-counts-v
offset_bounds-counts-v c = omega (arith, node_low c.loop-j.invariant)

pub bounds-counts-v : goal.bounds-counts-v
bounds-counts-v c = omega (arith, node_low c.loop-j.invariant)

pub shape_of-out-then-m-eq0 : goal.shape_of-out-then-m-eq0
shape_of-out-then-m-eq0 c = c.loop-j.invariant.long

pub returns-then-m-eq0 : goal.returns-then-m-eq0
returns-then-m-eq0 c = stops c.loop-j.invariant c.loop-j-test.true c.if-m-eq0.true (omega (arith, c.requires.1, c.loop-j.invariant.long))

pub overflow_mul-event : goal.overflow_mul-event
overflow_mul-event c = omega (arith, node_low c.loop-j.invariant)

pub nonzero_rem-event : goal.nonzero_rem-event
nonzero_rem-event c = omega (arith, c.if-m-eq0.false)

pub overflow_cast-event : goal.overflow_cast-event
overflow_cast-event c = omega (arith, event_place c.loop-j.invariant c.next_state-x.result c.if-m-eq0.false)

pub overflow_add-event : goal.overflow_add-event
overflow_add-event c = omega (arith, event_place c.loop-j.invariant c.next_state-x.result c.if-m-eq0.false)

pub bounds-lists-v : goal.bounds-lists-v
bounds-lists-v c = omega (arith, event_place c.loop-j.invariant c.next_state-x.result c.if-m-eq0.false)

pub bounds-out-j : goal.bounds-out-j
bounds-out-j c = omega (arith, c.loop-j.invariant.long)

pub overflow_mul-v : goal.overflow_mul-v
overflow_mul-v c = omega (arith, node_low c.loop-j.invariant)

pub overflow_add-v : goal.overflow_add-v
overflow_add-v c = omega (arith, node_low c.loop-j.invariant, event_low c.loop-j.invariant c.next_state-x.result c.if-m-eq0.false)

pub bounds-next-v : goal.bounds-next-v
bounds-next-v c = omega (arith, node_low c.loop-j.invariant, event_low c.loop-j.invariant c.next_state-x.result c.if-m-eq0.false)

pub loop-j-preserved : goal.loop-j-preserved
loop-j-preserved c = goes_on c.loop-j.invariant c.loop-j-test.true (omega (arith, c.loop-j.invariant.long)) c.if-m-eq0.false c.next_state-x.ensures refl (c.from-v.ensures ∙ ap (λ (k : ℕ). get_or c.args.next.now (c.loop-j.v * 12 + k) 0) c.from.ensures)

pub shape_of-out : goal.shape_of-out
shape_of-out c = c.loop-j.invariant.long

pub returns : goal.returns
returns c =
    let e : c.loop-j.j ≡ c.args.wish = omega arith in
    rw e at (ends c.loop-j.invariant (omega arith) (omega (arith, c.requires.1, c.loop-j.invariant.long)))
