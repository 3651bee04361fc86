-- The refusals are those of the definition, in its order; without one the table is told.
use Rattle.std.proofs.Common.{rules}
use Rattle.keypad.proofs.Steps.{denies_sheet, denies_table, at_most_64, tells_table}
use Rattle.keypad.proofs.check.Goals as goal

pub returns-in_err-check : goal.returns-in_err-check
returns-in_err-check c = denies_sheet _ _ c.check.ensures c.in_err-check.was (search rules)

pub returns-in_err-table_fault : goal.returns-in_err-table_fault
returns-in_err-table_fault c = denies_table _ _ c.check.ensures _ c.table_fault.ensures c.in_ok-check.was c.in_err-table_fault.was (search rules)

pub table_answer-requires : goal.table_answer-requires
table_answer-requires c = at_most_64 _ _ c.check.ensures _ c.table_fault.ensures c.in_ok-check.was c.in_ok-table_fault.was

pub returns : goal.returns
returns c = tells_table _ _ c.check.ensures _ c.table_fault.ensures c.in_ok-check.was c.in_ok-table_fault.was c.table_answer.ensures
