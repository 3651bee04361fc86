-- `probes::first_missed`: the first missed set of the list of probes.
use Rattle.std.proofs.Common.{replicate}
use Rattle.probes.proofs.Lists.{list_front}
use Rattle.probes.proofs.Misses.{told_missed}
use Rattle.probes.proofs.first_missed.Goals as goal

pub returns : goal.returns
returns c =
    let front = list_front c.args.sets.now c.args.e (replicate 4096 0) c.fill-m.ensures.0 c.fill-m.ensures.1 in
    told_missed c.args.sets.now c.args.e c.args.device.now _ front c.first_missing.ensures
