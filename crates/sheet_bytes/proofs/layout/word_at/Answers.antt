-- The result is the sum of the definition, and two bytes are below 65536.
use Rattle.sheet_bytes.proofs.layout.word_at.Goals as goal

pub returns : goal.returns
returns c = cc
