-- `probes::find`. The loop's invariant: the probes below x stand at the front of the list, the rest of which is as it
-- was, and `found` is how many they are.
use Rattle.std.proofs.Common.{◌≡◌, length}
use Rattle.base.specs.Front.{at_front}
use Rattle.probes.proofs.Seen.{seen}
use Rattle.probes.proofs.find.Given as goal

abbrev pub invariant-loop-x : goal.invariant-loop-x
invariant-loop-x l =
    (l.found ≡ length (seen l.sets l.x)) × (l.out ≡ at_front l.initial.out (seen l.sets l.x)) × (length l.out ≡ length l.initial.out)
