-- After i rounds the first i bytes are put.
use Rattle.std.specs.Prelude.{take}
use Rattle.text.specs.Pages.{Puts}
use Rattle.text.proofs.Page.put.Given as goal

abbrev pub invariant-loop-b : goal.invariant-loop-b
invariant-loop-b l = Puts (take l.b-index l.words) l.initial.self l.self
