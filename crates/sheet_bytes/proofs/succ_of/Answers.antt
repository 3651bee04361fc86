-- The test is the definition's.
use borrow.Author.Tests.{lt-ltb, le-ltb}
use Rattle.sheet_spec.specs.Spelling.{succ_of}
use Rattle.sheet_bytes.proofs.succ_of.Goals as goal

pub returns-then-i-e : goal.returns-then-i-e
unfolding succ_of
returns-then-i-e c = rw (lt-ltb _ _ c.if-i-e.true) c.byte_at.ensures

pub returns-else-i-e : goal.returns-else-i-e
unfolding succ_of
returns-else-i-e c = rw (le-ltb _ _ c.if-i-e.false)
