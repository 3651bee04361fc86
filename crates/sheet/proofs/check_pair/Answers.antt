use Rattle.sheet.proofs.Answers.{few_events}
use Rattle.sheet.proofs.check_pair.Goals as goal

pub shared_fault-requires : goal.shared_fault-requires
shared_fault-requires c = few_events c.args.reference c.in_ok-check.ensures
