use Rattle.std.proofs.Common.{◌≡◌, ◌<◌, true, length, sym, refl, ap, ◌∙◌, arith, length-set}
use Rattle.base.specs.Front.{at_front}
use Rattle.probes_spec.specs.Probes.{is_probe}
use Rattle.probes.proofs.Seen.{seen, seen_none, seen_no, seen_short, seen_count, seen_room, seen_put, seen_all}
use Rattle.probes.proofs.find.Goals as goal
use Rattle.probes.proofs.find.Goals.{then-is_probe, else-is_probe}

pub loop-x-init : goal.loop-x-init
loop-x-init c = (sym (ap length (seen_none c.args.sets.now)), ap (at_front c.args.out.now) (sym (seen_none c.args.sets.now)), refl)

pub offset_bounds-out-found : goal.offset_bounds-out-found
offset_bounds-out-found c = omega (arith, seen_short c.args.sets.now c.loop-x.x)

pub bounds-out-found : goal.bounds-out-found
bounds-out-found c = omega (arith, seen_room c.args.sets.now c.loop-x.x (sym c.is_probe.ensures ∙ c.if-is_probe.true) c.args.e (omega arith))

pub overflow_add-found : goal.overflow_add-found
overflow_add-found c = omega (arith, seen_short c.args.sets.now c.loop-x.x)

pub loop-x-preserved : goal.loop-x-preserved
loop-x-preserved c = elim c.if-is_probe.branch [
  | then-is_probe w ↦
      let t : is_probe c.args.sets.now c.loop-x.x ≡ true = sym c.is_probe.ensures ∙ w.if-is_probe.true in
      let room : length (seen c.args.sets.now c.loop-x.x) < length c.args.out.now = omega (arith, seen_room c.args.sets.now c.loop-x.x t c.args.e (omega arith)) in (
        w.found-is ∙ omega (arith, c.loop-x.invariant.0, seen_count c.args.sets.now c.loop-x.x t),
        w.out-is ∙ seen_put c.args.sets.now c.loop-x.x t c.args.out.now c.loop-x.invariant.0 c.loop-x.invariant.1 room,
        ap length w.out-is ∙ length-set c.loop-x.out c.loop-x.found c.loop-x.x ∙ c.loop-x.invariant.2,
      )
  | else-is_probe w ↦
      let q = seen_no c.args.sets.now c.loop-x.x (sym c.is_probe.ensures ∙ w.if-is_probe.false) in (
        w.found-is ∙ c.loop-x.invariant.0 ∙ sym (ap length q),
        w.out-is ∙ c.loop-x.invariant.1 ∙ ap (at_front c.args.out.now) (sym q),
        ap length w.out-is ∙ c.loop-x.invariant.2,
      )
]

pub returns : goal.returns
returns c =
    let q = seen_all c.args.sets.now c.args.e c.loop-x.x (omega arith) in
    (c.loop-x.invariant.1 ∙ ap (at_front c.args.out.now) q, c.loop-x.invariant.0 ∙ ap length q)
