-- The refusals of the two sheets come first, then the length.
use Rattle.std.proofs.Common.{rules}
use Rattle.scripts.proofs.Faults.{unpaired, twenty, no_fault}
use Rattle.scripts.proofs.fault_on.Goals as goal

pub returns-in_err-check_pair : goal.returns-in_err-check_pair
returns-in_err-check_pair c = unpaired _ _ _ c.check_pair.ensures c.in_err-check_pair.was (search rules)

pub returns-then-length-gt16 : goal.returns-then-length-gt16
returns-then-length-gt16 c = twenty _ _ _ c.check_pair.ensures c.in_ok-check_pair.was c.if-length-gt16.true

pub returns : goal.returns
returns c = no_fault _ _ _ c.check_pair.ensures c.in_ok-check_pair.was c.if-length-gt16.false
