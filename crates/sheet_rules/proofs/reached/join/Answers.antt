-- The test is that of the definition.
use Rattle.sheet_rules.specs.ReachShapes.{with_targets}
use Rattle.sheet_rules.proofs.reached.join.Goals as goal

pub returns-then-has_node : goal.returns-then-has_node
unfolding with_targets
returns-then-has_node c = rw (← c.has_node.ensures, c.if-has_node.true)

pub returns-else-has_node : goal.returns-else-has_node
unfolding with_targets
returns-else-has_node c = rw (← c.has_node.ensures, c.if-has_node.false)
