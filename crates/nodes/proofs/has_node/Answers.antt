-- The lowest digit of the shifted set is the digit of the node.
use mathlib.Core.Path.{refl}
use Rattle.events.specs.Bit.{bit}
use Rattle.events.specs.Sets.{has}
use Rattle.nodes.proofs.has_node.Goals as goal

pub returns : goal.returns
unfolding has bit
returns c = refl
