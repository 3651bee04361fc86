-- `events::is_inside` is its definition.
use mathlib.Core.Path.{refl}
use Rattle.events.specs.Sets.{inside}
use Rattle.events.proofs.is_inside.Goals as goal

pub returns : goal.returns
unfolding inside
returns c = refl
