-- Refused, the answer is its number and zeros; else the counts of the rows, which are those of the sheets.
use Rattle.std.proofs.Common.{rules}
use Rattle.scripts.proofs.Answers.{refused, sizes, given}
use Rattle.scripts.proofs.count.Goals as goal

pub returns-in_err-fault_on : goal.returns-in_err-fault_on
returns-in_err-fault_on c = refused _ _ _ c.fault_on.ensures c.in_err-fault_on.was (search rules)

pub count_rows-requires : goal.count_rows-requires
count_rows-requires c =
    rw c.from.ensures
    (sizes _ _ _ c.fault_on.ensures c.in_ok-fault_on.was c.from-e.ensures c.from-p.ensures c.from-q.ensures)

pub returns : goal.returns
returns c =
    given _ _ _ c.fault_on.ensures c.in_ok-fault_on.was
    c.from-e.ensures c.from-p.ensures c.from-q.ensures _ (rw c.from.ensures at c.count_rows.ensures)
