-- Before each round, where the event leads from the nodes that are left is what is missing.
use Rattle.verdicts_layers.proofs.images.Images.{Walked}
use Rattle.verdicts_layers.proofs.images.image.Given as goal

abbrev pub invariant-loop-rest : goal.invariant-loop-rest
invariant-loop-rest l = Walked l.bits l.i l.from l.out l.rest

abbrev pub decreases-loop-rest : goal.decreases-loop-rest
decreases-loop-rest l = l.rest
