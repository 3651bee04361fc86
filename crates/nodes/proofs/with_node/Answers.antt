-- The shifted one is the set of the node alone.
use Prim.Native.Nat.{◌<◌}
use native.Mathlib.Omega.{arith}
use Rattle.events.proofs.Bit.{one_shifted}
use Rattle.nodes.proofs.with_node.Goals as goal

pub returns : goal.returns
returns c = let h : c.args.node < 32 = omega arith in rw (one_shifted 32 c.args.node h)
