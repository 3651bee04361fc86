-- `candidates::set_count`: the sets of `e` events are the numbers below 2 to the power `e`.
use Rattle.std.proofs.Common.{◌^◌, ◌≤◌, arith, pow_mono}
use Rattle.probes.proofs.candidates.set_count.Goals as goal

pub returns : goal.returns
returns c = let h : 2 ^ c.args.e ≤ 2 ^ 12 = pow_mono c.requires in omega arith
