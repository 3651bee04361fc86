-- The three numbers of a place.
use mathlib.Core.Path.{refl}
use Rattle.scripts.specs.Shapes.{cell}
use Rattle.scripts.proofs.tables.load.Goals as goal

pub returns : goal.returns
unfolding cell
returns c = refl
