-- The row is that of the definition.
use mathlib.Core.Path.{refl}
use Rattle.sheet_bytes.proofs.unused_row.Goals as goal

pub returns : goal.returns
returns c = refl
