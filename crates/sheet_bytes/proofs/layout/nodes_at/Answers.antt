-- The test is the definition's, and a byte is at most 255.
use native.Mathlib.Omega.{arith}
use Rattle.sheet_bytes.proofs.layout.Nodes.{after_codes, after_head_lem}
use Rattle.sheet_bytes.proofs.layout.nodes_at.Goals as goal

pub returns-then-byte_at-eq2 : goal.returns-then-byte_at-eq2
returns-then-byte_at-eq2 c = (search after_codes, omega arith)

pub returns-else-byte_at-eq2 : goal.returns-else-byte_at-eq2
returns-else-byte_at-eq2 c = (search (after_head_lem, c.if-byte_at-eq2.false), omega arith)
