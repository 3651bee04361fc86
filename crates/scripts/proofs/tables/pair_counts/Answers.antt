use mathlib.Core.Path.{◌≡◌, sym}
use native.Mathlib.Omega.{arith}
use Rattle.scripts.proofs.tables.Cells.{place_lt, place_few}
use Rattle.scripts.proofs.tables.Sums.{places_none, places_more, places_room}
use Rattle.scripts.proofs.tables.pair_counts.Goals as goal

pub loop-i-init : goal.loop-i-init
loop-i-init c = (omega arith, sym (places_none _ _ _ _ _ _ _))

pub overflow_add-n : goal.overflow_add-n
overflow_add-n c = omega (arith, c.requires.0.e_few)

pub bounds-a-n : goal.bounds-a-n
bounds-a-n c = omega (arith, c.requires.0.e_few)

pub overflow_add-m : goal.overflow_add-m
overflow_add-m c = omega (arith, c.requires.0.e_few)

pub bounds-b-m : goal.bounds-b-m
bounds-b-m c = omega (arith, c.requires.0.e_few)

pub place_of-place-requires : goal.place_of-place-requires
place_of-place-requires c = let s = c.requires.0 in (s.p_few, s.q_few)

pub with_place-s-requires : goal.with_place-s-requires
with_place-s-requires c =
    let s = c.requires in
    let h = c.place_of-place.ensures in (
      rw h (place_few _ _ _ _ s.0.p_few s.0.q_few),
      places_room _ _ _ _ _ _ _ _ _ s.3 c.loop-i.invariant.1 c.loop-i-test.true s.0.e_few,
      rw h (s.3 _ (place_lt _ _ _ _)),
    )

pub overflow_step-i : goal.overflow_step-i
overflow_step-i c = omega (arith, c.requires.0.e_few)

pub loop-i-preserved : goal.loop-i-preserved
loop-i-preserved c =
    (omega arith, places_more _ _ _ _ _ _ _ _ _ _ _ c.loop-i.invariant.1 c.place_of-place.ensures c.with_place-s.ensures)

pub returns : goal.returns
returns c = let e : c.loop-i.i ≡ c.args.e = omega arith in rw e at c.loop-i.invariant.1
