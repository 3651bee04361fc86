-- What there is at the smallest bad code is told, or that there is none.
use Rattle.keypad.proofs.Steps.{bad_is, puts_bad, puts_good}
use Rattle.keypad.proofs.table_answer.Goals as goal

pub bad_answer-requires : goal.bad_answer-requires
bad_answer-requires c = (c.requires, bad_is _ c.in-Some.ensures)

pub returns-in-Some : goal.returns-in-Some
returns-in-Some c = puts_bad _ c.in-Some.ensures c.bad_answer.ensures

pub returns-in-None : goal.returns-in-None
returns-in-None c = puts_good _ c.in-None.ensures
