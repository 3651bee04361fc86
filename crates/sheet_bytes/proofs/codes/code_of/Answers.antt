-- Each law is one way out.
use Rattle.sheet_bytes.proofs.codes.Given.{unused, written, counted}
use Rattle.sheet_bytes.proofs.codes.code_of.Goals as goal

pub returns-then-i-from : goal.returns-then-i-from
returns-then-i-from c = search unused

pub returns-then-byte_at-eq2 : goal.returns-then-byte_at-eq2
returns-then-byte_at-eq2 c = search written

pub returns-else-byte_at-eq2 : goal.returns-else-byte_at-eq2
returns-else-byte_at-eq2 c = search (counted, c.if-byte_at-eq2.false)
