use Rattle.keypad.proofs.Steps.{seek_start, seek_more, seek_found, seek_none}
use Rattle.keypad.proofs.match_from.Goals as goal

pub loop-i-init : goal.loop-i-init
loop-i-init c = seek_start _ _ _

pub returns-then-code-table : goal.returns-then-code-table
returns-then-code-table c = search (seek_found, c.if-code-table.true)

pub loop-i-preserved : goal.loop-i-preserved
loop-i-preserved c = search (seek_more, c.if-code-table.false)

pub returns : goal.returns
returns c = search seek_none
