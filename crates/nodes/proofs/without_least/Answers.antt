-- Taking 1 off a number changes its least digit and those below, which were 0.
use native.Mathlib.Omega.{arith}
use Rattle.nodes.specs.NodeSets.{least_off}
use Rattle.nodes.proofs.without_least.Goals as goal

pub returns : goal.returns
returns c = least_off c.args.set (omega arith) (omega arith)
