-- `probes::list_sets`: what is found, written size by size.
use Rattle.std.proofs.Common.{replicate, arith}
use Rattle.std.proofs.lemmas.Grind.{common_steps}
use Rattle.probes.proofs.Lists.{found_front, found_listed, found_length}
use Rattle.probes.proofs.list_sets.Goals as goal

pub returns : goal.returns
returns c =
    let front = found_front c.args.sets.now c.args.e (replicate 4096 0) c.find-m.ensures.0 c.find-m.ensures.1 in
    let listed = found_listed c.args.sets.now c.args.e c.args.out.now _ front c.put_by_size.ensures in
    grind (arith, common_steps, listed, found_length c.args.sets.now c.args.e c.find-m.ensures.1)
