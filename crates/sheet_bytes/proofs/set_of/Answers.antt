-- The test is the definition's.
use borrow.Author.Tests.{lt-ltb, le-ltb}
use Rattle.sheet_spec.specs.Spelling.{sets_of}
use Rattle.sheet_bytes.proofs.set_of.Goals as goal

pub returns-then-j-c : goal.returns-then-j-c
unfolding sets_of
returns-then-j-c c = rw (lt-ltb _ _ c.if-j-c.true) c.word_at.ensures

pub returns-else-j-c : goal.returns-else-j-c
unfolding sets_of
returns-else-j-c c = rw (le-ltb _ _ c.if-j-c.false)
