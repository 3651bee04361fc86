-- The row is put together from its parts as in the definition.
use Rattle.sheet_spec.specs.Spelling.{row_at}
use Rattle.sheet_bytes.proofs.row_at.Goals as goal

pub returns : goal.returns
unfolding row_at
returns c = cc
