-- `sheet_rows::acceptance_at`: below 16 a row has the place, from 16 on it has none.
use mathlib.Core.Path.{refl}
use Rattle.sheet_spec.specs.Kept.{acceptance}
use Rattle.sheet_rows.proofs.Shape.{set_out}
use Rattle.sheet_rows.proofs.acceptance_at.Goals as goal

pub returns-then-place-lt16 : goal.returns-then-place-lt16
unfolding acceptance
returns-then-place-lt16 c = refl

pub returns-else-place-lt16 : goal.returns-else-place-lt16
returns-else-place-lt16 c = set_out c.args.row _ c.well_formed.0 _ c.if-place-lt16.false
