-- Each case of the check gives its case of the lookup; in a good table the rule is one of the table's.
use Rattle.std.proofs.Common.{rules, arith}
use Rattle.keypad.proofs.Steps.{finds_event, finds_gap, finds_overlap, finds_denied, finds_inside}
use Rattle.keypad.proofs.find.Goals as goal

pub returns-in_err-check : goal.returns-in_err-check
returns-in_err-check c = finds_denied _ _ _ c.check.ensures.0 c.in_err-check.was (search rules)

pub event_of-requires : goal.event_of-requires
event_of-requires c = finds_inside _ _ _ c.check.ensures.0 c.in_ok-check.was c.in-Good.is (omega arith)

pub returns-in-Good : goal.returns-in-Good
returns-in-Good c = finds_event _ _ _ c.check.ensures.0 c.in_ok-check.was c.in-Good.is c.event_of.ensures

pub returns-in-Gap : goal.returns-in-Gap
returns-in-Gap c = finds_gap _ _ _ c.check.ensures.0 c.in_ok-check.was c.in-Gap.is

pub returns-in-Overlap : goal.returns-in-Overlap
returns-in-Overlap c = finds_overlap _ _ _ c.check.ensures.0 c.in_ok-check.was c.in-Overlap.is
