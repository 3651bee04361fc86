use Rattle.std.proofs.Common.{arith}
use Rattle.keypad.proofs.Steps.{bad_found, bad_none}
use Rattle.base.proofs.Loops.{starts, goes_on}
use Rattle.keypad.proofs.bad_code.Goals as goal

pub loop-code-init : goal.loop-code-init
loop-code-init c = starts

pub returns-then-not-has_one : goal.returns-then-not-has_one
returns-then-not-has_one c = bad_found _ c.loop-code.invariant (omega arith) c.has_one.ensures c.if-not-has_one.true

pub loop-code-preserved : goal.loop-code-preserved
loop-code-preserved c = goes_on c.loop-code.invariant (omega arith) c.has_one.ensures (rw c.if-not-has_one.false)

pub returns-else-not-has_one : goal.returns-else-not-has_one
returns-else-not-has_one c =
    bad_none _ (goes_on c.loop-code.invariant (omega arith) c.has_one.ensures (rw c.if-not-has_one.false)) (omega arith)
