-- `queue::level_at`: the level goes on, or the next one begins where it ends.
use mathlib.Core.Path.{refl}
use borrow.Author.Tests.{lt-ltb, le-ltb}
use Rattle.search.proofs.queue.level_at.Goals as goal

pub returns-then-head-level : goal.returns-then-head-level
returns-then-head-level c = rw (lt-ltb _ _ c.if-head-level.true) (refl, refl, refl)

pub returns : goal.returns
returns c = rw (le-ltb _ _ c.if-head-level.false) (refl, refl, refl)
