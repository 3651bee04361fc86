-- After i rounds the events below i are put.
use Rattle.events.specs.Lists.{events_in}
use Rattle.text_spec.specs.Lines.{event_list}
use Rattle.text.specs.Pages.{Puts}
use Rattle.text.proofs.Page.put_members.Given as goal

abbrev pub invariant-loop-i : goal.invariant-loop-i
invariant-loop-i l = Puts (event_list (events_in l.set l.i)) l.initial.self l.self
