-- Within the slice the byte is the list's; past its end the list reads as 0.
use mathlib.Core.Path.{refl, sym}
use lib.ListN.{get_or-eq_default}
use Rattle.sheet_bytes.proofs.layout.byte_at.Goals as goal

pub returns-then-i-bytes : goal.returns-then-i-bytes
returns-then-i-bytes c = refl

pub returns-else-i-bytes : goal.returns-else-i-bytes
returns-else-i-bytes c = sym (get_or-eq_default c.args.bytes.now 0 c.if-i-bytes.false)
