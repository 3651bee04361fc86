-- `several::gather`. The loop's invariant: the acceptances of the nodes below v stand at the front, the rest of the list
-- is as it was.
use Rattle.std.proofs.Common.{◌≡◌, length}
use Rattle.base.specs.Front.{at_front}
use Rattle.base.specs.Joined.{joined}
use Rattle.probes.proofs.several.Gathered.{of}
use Rattle.probes.proofs.several.gather.Given as goal

abbrev pub invariant-loop-v : goal.invariant-loop-v
invariant-loop-v l =
    (l.v-end ≡ l.sheet.n) × (l.at ≡ length (joined (of l.sheet l.nodes) l.v)) × (l.out ≡ at_front l.initial.out (joined (of l.sheet l.nodes) l.v)) × (length l.out ≡ length l.initial.out)
