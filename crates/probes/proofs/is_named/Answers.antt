-- `is_named`: no node is named, or the number is compared with that of all sets of nodes below n.
use Rattle.std.proofs.Common.{refl}
use Rattle.probes.proofs.several.Gathered.{named_none, named_some}
use Rattle.probes.proofs.is_named.Goals as goal

pub returns-then-nodes-ne0 : goal.returns-then-nodes-ne0
returns-then-nodes-ne0 c = rw c.from.ensures (named_some c.args.n c.args.nodes c.requires c.if-nodes-ne0.true)

pub returns-else-nodes-ne0 : goal.returns-else-nodes-ne0
returns-else-nodes-ne0 c = rw c.if-nodes-ne0.false (named_none c.args.n 0 refl)
