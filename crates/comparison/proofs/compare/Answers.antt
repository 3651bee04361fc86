-- `comparison::compare`: a refusal alters nothing; else the answer is the comparison's.
use Rattle.std.proofs.Common.{rules}
use Rattle.refusals.proofs.NumberLaws.{number_some}
use Rattle.comparison.specs.Tables.{compares_denied, passed}
use Rattle.comparison.proofs.compare.Goals as goal

pub returns-in_err-fault_on : goal.returns-in_err-fault_on
returns-in_err-fault_on c =
    let a = c.args in
    search (rules, compares_denied a.reference a.device a.work.now a.trace.now a.trace_only _ c.in_err-fault_on.ensures (number_some _))

pub compare_accepted-requires : goal.compare_accepted-requires
compare_accepted-requires c =
    let a = c.args in
    passed a.reference a.device a.work.now a.trace.now c.in_ok-fault_on.ensures
