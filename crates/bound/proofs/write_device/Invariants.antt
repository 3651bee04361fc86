-- The head, the nodes that climb, and the last.
use Rattle.std.proofs.Common.{◌+◌, ◌*◌}
use Rattle.bound_spec.specs.ByteLaws.{head_bytes, climbing_device}
use Rattle.bound.proofs.Steps.{Climbing}
use Rattle.bound.proofs.write_device.Given as goal

abbrev pub invariant-loop-v : goal.invariant-loop-v
invariant-loop-v l = Climbing (head_bytes (5 * l.q + 3) l.q) climbing_device 5 l.initial.out l.out l.v
