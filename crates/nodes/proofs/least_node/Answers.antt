-- The count of the zeros below the least digit is its place.
use mathlib.Core.Path.{refl}
use native.Mathlib.Omega.{arith}
use lib.Count.{trailing_le}
use Rattle.nodes.specs.NodeSets.{least_node}
use Rattle.nodes.proofs.least_node.Goals as goal

pub overflow_cast-result : goal.overflow_cast-result
overflow_cast-result c = omega (arith, trailing_le 32 c.args.set)

pub returns : goal.returns
unfolding least_node
returns c = refl
