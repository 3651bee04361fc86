use native.Mathlib.Omega.{arith}
use Rattle.verdicts_layers.proofs.images.Images.{walk_on}
use Rattle.verdicts_layers.proofs.images.image.Goals as goal

pub loop-rest-preserved : goal.loop-rest-preserved
loop-rest-preserved c = walk_on c.loop-rest.invariant (omega arith) (omega arith) c.least_node-m.ensures c.without_least-rest.ensures
