-- `named::tell`: what the search found at a bad pair is in its ranges.
use Rattle.std.proofs.Common.{arith}
use Rattle.comparison.proofs.named.Tells.{bad_fits}
use Rattle.comparison.proofs.named.tell.Goals as goal

pub offset_bounds-reference-v : goal.offset_bounds-reference-v
offset_bounds-reference-v c = omega (arith, bad_fits _ _ _ c.requires _ _ _ _ c.in-Bad.is)

pub bounds-reference-v : goal.bounds-reference-v
bounds-reference-v c = omega (arith, bad_fits _ _ _ c.requires _ _ _ _ c.in-Bad.is)

pub offset_bounds-device-w : goal.offset_bounds-device-w
offset_bounds-device-w c = omega (arith, bad_fits _ _ _ c.requires _ _ _ _ c.in-Bad.is)

pub bounds-device-w : goal.bounds-device-w
bounds-device-w c = omega (arith, bad_fits _ _ _ c.requires _ _ _ _ c.in-Bad.is)

pub overflow_cast-distance : goal.overflow_cast-distance
overflow_cast-distance c = omega (arith, bad_fits _ _ _ c.requires _ _ _ _ c.in-Bad.is)

pub overflow_cast-cleared : goal.overflow_cast-cleared
overflow_cast-cleared c = omega (arith, bad_fits _ _ _ c.requires _ _ _ _ c.in-Bad.is)

pub name-requires : goal.name-requires
name-requires c =
    let r = bad_fits _ _ _ c.requires _ _ _ _ c.in-Bad.is in
    (r.sets, omega (arith, r.events, c.from-e.ensures), r.others)
