-- The first part is the sheet, the second the table.
use Rattle.keypad_check_lines.proofs.Steps.{sheet_alone, sheet_and_table}
use Rattle.keypad_check_lines.proofs.put_input.Goals as goal

pub returns-in-Ok : goal.returns-in-Ok
returns-in-Ok c =
    sheet_and_table _ _ c.first_end.ensures.0 c.split_at.ensures.front _ c.read.ensures c.in-Ok.is c.split_at.ensures.back
    (rw c.in-Ok.is c.put_head.ensures) c.put_table.ensures

pub returns-in-Err : goal.returns-in-Err
returns-in-Err c =
    sheet_alone _ _ c.first_end.ensures.0 c.split_at.ensures.front _ c.read.ensures c.in-Err.is
    (rw c.in-Err.is (rw c.from.ensures at c.put_head-in-Err.ensures))
