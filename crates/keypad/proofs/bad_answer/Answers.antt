-- No rule matches the code, or the two lowest that do are named.
use Rattle.std.proofs.Common.{sym, ◌∙◌}
use Rattle.keypad.proofs.Steps.{some_more, puts_gap, puts_overlap}
use Rattle.keypad.proofs.bad_answer.Goals as goal

pub unwrap-k-requires : goal.unwrap-k-requires
unwrap-k-requires c = some_more _ _ c.in-Some.ensures c.match_from-in-Some.ensures c.requires.1

pub returns-in-Some : goal.returns-in-Some
returns-in-Some c = puts_overlap _ _ c.in-Some.ensures (sym c.unwrap-k.ensures ∙ c.match_from-in-Some.ensures)

pub returns-in-None : goal.returns-in-None
returns-in-None c = puts_gap _ _ c.in-None.ensures
