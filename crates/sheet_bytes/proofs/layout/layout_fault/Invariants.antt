-- After v rounds the walk over the nodes that are left gives the answer; each law is one way out of it.
use Rattle.sheet_spec.specs.Spelling.{nodes_at}
use Rattle.sheet_spec.specs.Refusals.{layout_fault}
use Rattle.sheet_bytes.proofs.layout.Nodes.{Walking}
use Rattle.sheet_bytes.proofs.layout.layout_fault.Given as goal

abbrev pub invariant-loop-v : goal.invariant-loop-v
invariant-loop-v l = Walking l.bytes l.e l.n (layout_fault l.bytes l.e l.n (nodes_at l.bytes)) l.v l.at
