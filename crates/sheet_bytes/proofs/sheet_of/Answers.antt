-- The sheet is put together from its parts as in the definition.
use Rattle.sheet_spec.specs.Spelling.{sheet_of}
use Rattle.sheet_bytes.proofs.sheet_of.Goals as goal

pub returns : goal.returns
unfolding sheet_of
returns c = cc
