-- A number from 32 on leaves the set as it is.
use borrow.Author.Tests.{lt-ltb, le-ltb}
use Rattle.sheet_rules.specs.RowShapes.{node_added}
use Rattle.sheet_rules.proofs.rows.with_target.Goals as goal

pub returns-then-node-lt32 : goal.returns-then-node-lt32
unfolding node_added
returns-then-node-lt32 c = rw (lt-ltb _ 32 c.if-node-lt32.true) c.with_node.ensures

pub returns-else-node-lt32 : goal.returns-else-node-lt32
unfolding node_added
returns-else-node-lt32 c = rw (le-ltb _ 32 c.if-node-lt32.false)
