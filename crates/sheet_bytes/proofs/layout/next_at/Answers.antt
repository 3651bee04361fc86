-- The place is the sum of the definition, and a byte is at most 255.
use native.Mathlib.Omega.{arith}
use Rattle.sheet_spec.specs.Spelling.{next_at}
use Rattle.sheet_bytes.proofs.layout.next_at.Goals as goal

pub returns : goal.returns
unfolding next_at
returns c = omega arith
