-- The loop leaves at the first code that not just one rule matches.
use Rattle.keypad.proofs.Steps.{one_rule}
use Rattle.base.proofs.Loops.{Passing}
use Rattle.keypad.proofs.bad_code.Given as goal

abbrev pub invariant-loop-code : goal.invariant-loop-code
invariant-loop-code l = Passing (one_rule l.table) 256 l.code
