-- The test is the definition's, and the place is where the node begins.
use borrow.Author.Tests.{lt-ltb, le-ltb}
use Rattle.sheet_spec.specs.Spelling.{row_of}
use Rattle.sheet_bytes.proofs.row_of.Goals as goal

pub returns-then-v-n : goal.returns-then-v-n
unfolding row_of
returns-then-v-n c = rw (lt-ltb _ _ c.if-v-n.true) (cc)

pub returns-else-v-n : goal.returns-else-v-n
unfolding row_of
returns-else-v-n c = rw (le-ltb _ _ c.if-v-n.false) c.unused_row.ensures
