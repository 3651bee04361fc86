-- `sizes::put_by_size`. The loop's invariant: the sets of the sizes before stand at the front, the rest of the list is
-- as it was.
use Rattle.std.proofs.Common.{◌≡◌, length}
use Rattle.base.specs.Front.{at_front}
use Rattle.base.specs.Joined.{joined}
use Rattle.probes_spec.specs.Shapes.{of_size}
use Rattle.probes.proofs.sizes.put_by_size.Given as goal

abbrev pub invariant-loop-size : goal.invariant-loop-size
invariant-loop-size l =
    (l.at ≡ length (joined (of_size l.found) l.size)) × (l.out ≡ at_front l.initial.out (joined (of_size l.found) l.size)) × (length l.out ≡ length l.initial.out)
