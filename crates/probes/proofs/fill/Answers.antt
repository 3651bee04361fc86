-- `probes::fill`: what is found, written size by size.
use Rattle.std.proofs.Common.{length, replicate, ap, arith}
use Rattle.probes_spec.proofs.ShapeLaws.{found_count}
use Rattle.probes.proofs.Lists.{found_front, found_listed, found_length}
use Rattle.probes.proofs.fill.Goals as goal

pub put_by_size-requires : goal.put_by_size-requires
put_by_size-requires c =
    let front = found_front c.args.sets.now c.args.e (replicate 4096 0) c.find-m.ensures.0 c.find-m.ensures.1 in
    (omega arith, omega (arith, ap length front, found_count c.args.sets.now c.args.e))

pub returns : goal.returns
returns c =
    let front = found_front c.args.sets.now c.args.e (replicate 4096 0) c.find-m.ensures.0 c.find-m.ensures.1 in
    (found_listed c.args.sets.now c.args.e c.args.out.now _ front c.put_by_size.ensures, found_length c.args.sets.now c.args.e c.find-m.ensures.1)
