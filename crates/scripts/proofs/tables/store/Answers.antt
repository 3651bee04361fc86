-- The three numbers are put one after another.
use Rattle.scripts.proofs.tables.Cells.{stored}
use Rattle.scripts.proofs.tables.store.Goals as goal

pub returns : goal.returns
returns c = stored _ _ _ c.requires.1 c.requires.0
