-- The two places are put one after the other.
use mathlib.Core.Path.{◌∙◌}
use native.Mathlib.Omega.{arith}
use Rattle.scripts.proofs.tables.Cells.{stopped}
use Rattle.scripts.proofs.tables.put_stops.Goals as goal

pub store-requires : goal.store-requires
store-requires c = (omega arith, c.requires.1)

pub store-requires-2 : goal.store-requires-2
store-requires-2 c = (omega arith, c.store.ensures.long ∙ c.requires.1)

pub returns : goal.returns
returns c = stopped _ _ _ _ _ c.store.ensures c.store-2.ensures
