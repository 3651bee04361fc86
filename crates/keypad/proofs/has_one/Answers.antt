-- The two lowest rules that match tell whether there is just one.
use Rattle.keypad.proofs.Steps.{no_rule_matches, one_or_more}
use Rattle.keypad.proofs.has_one.Goals as goal

pub returns-in-Some : goal.returns-in-Some
returns-in-Some c = one_or_more _ _ c.in-Some.ensures c.match_from-in-Some.ensures c.is_none.ensures

pub returns-in-None : goal.returns-in-None
returns-in-None c = no_rule_matches _ _ c.in-None.ensures
