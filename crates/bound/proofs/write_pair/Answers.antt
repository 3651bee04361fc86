-- Refused, the answer is its number; else both sheets are written.
use Rattle.std.proofs.Common.{rules}
use Rattle.bound.proofs.Steps.{refused, reference_fits, device_fits, given}
use Rattle.bound.proofs.write_pair.Goals as goal

pub returns-in_err-fault_on : goal.returns-in_err-fault_on
returns-in_err-fault_on c = refused _ _ _ _ c.fault_on.ensures c.in_err-fault_on.was (search rules)

pub write_reference-requires : goal.write_reference-requires
write_reference-requires c = reference_fits _ _ _ _ c.fault_on.ensures c.in_ok-fault_on.was

pub write_device-requires : goal.write_device-requires
write_device-requires c = device_fits _ _ _ _ c.fault_on.ensures c.in_ok-fault_on.was

pub returns : goal.returns
returns c = given _ _ _ _ c.fault_on.ensures c.in_ok-fault_on.was c.write_reference.ensures c.write_device.ensures c.from.ensures c.from-2.ensures
