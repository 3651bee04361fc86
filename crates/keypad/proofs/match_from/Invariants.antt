-- The loop leaves at the first rule that matches.
use Rattle.keypad.proofs.Steps.{Seeking}
use Rattle.keypad.proofs.match_from.Given as goal

abbrev pub invariant-loop-i : goal.invariant-loop-i
invariant-loop-i l = Seeking l.table l.code l.from l.i
