-- `sizes::put_size`. The loop's invariant: of the sets before x those of the size stand from place `at` on, the rest of
-- the list is as it was.
use Rattle.std.proofs.Common.{◌≡◌, ◌+◌, ◌++◌, length, take}
use Rattle.base.specs.Front.{at_front}
use Rattle.probes.proofs.sizes.Sized.{part}
use Rattle.probes.proofs.sizes.put_size.Given as goal

abbrev pub invariant-loop-x : goal.invariant-loop-x
invariant-loop-x l =
    (l.next ≡ l.at + length (part l.found l.size l.x-index))
    × (l.out ≡ at_front l.initial.out (take l.at l.initial.out ++ part l.found l.size l.x-index)) × (length l.out ≡ length l.initial.out)
