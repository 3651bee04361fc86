-- The head, the nodes that climb, and the last.
use Rattle.std.proofs.Common.{◌+◌, ◌*◌}
use Rattle.bound_spec.specs.ByteLaws.{head_bytes, climbing_reference}
use Rattle.bound.proofs.Steps.{Climbing}
use Rattle.bound.proofs.write_reference.Given as goal

abbrev pub invariant-loop-v : goal.invariant-loop-v
invariant-loop-v l = Climbing (head_bytes (7 * l.p + 1) l.p) climbing_reference 7 l.initial.out l.out l.v
