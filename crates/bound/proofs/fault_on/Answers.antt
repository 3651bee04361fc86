-- The tests are those of the definition, with the lengths in numbers.
use Rattle.std.proofs.Common.{arith}
use Rattle.std.proofs.lemmas.Grind.{common_steps}
use Rattle.bound.proofs.Steps.{fault_is}
use Rattle.bound.proofs.fault_on.Goals as goal

pub returns-then-not-contains : goal.returns-then-not-contains
returns-then-not-contains c = rw fault_is (grind (arith, common_steps))

pub returns-then-reference-from : goal.returns-then-reference-from
returns-then-reference-from c = rw fault_is (grind (arith, common_steps))

pub returns-then-device-from : goal.returns-then-device-from
returns-then-device-from c = rw fault_is (grind (arith, common_steps))

pub returns : goal.returns
returns c = rw fault_is (grind (arith, common_steps))
