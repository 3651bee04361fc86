use Rattle.sheet_bytes.proofs.Passes.{few_events}
use Rattle.sheet_bytes.proofs.fault_in.Goals as goal

pub codes_fault-requires : goal.codes_fault-requires
codes_fault-requires c = few_events c.args.bytes.now c.in_ok-head_fault.ensures
