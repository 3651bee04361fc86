-- `rows::succ_at`: below 12 the place is read, from 12 on there is none.
use borrow.Author.Tests.{lt-ltb, le-ltb}
use Rattle.sheet_rules.proofs.rows.succ_at.Goals as goal

pub returns-then-event-lt12 : goal.returns-then-event-lt12
returns-then-event-lt12 c = rw (lt-ltb _ _ c.if-event-lt12.true)

pub returns-else-event-lt12 : goal.returns-else-event-lt12
returns-else-event-lt12 c = rw (le-ltb _ _ c.if-event-lt12.false)
