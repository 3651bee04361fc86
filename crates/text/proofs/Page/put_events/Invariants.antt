-- After i rounds the first i events are put.
use Rattle.std.specs.Prelude.{take}
use Rattle.text_spec.specs.Lines.{event_list}
use Rattle.text.specs.Pages.{Puts}
use Rattle.text.proofs.Page.put_events.Given as goal

abbrev pub invariant-loop-event : goal.invariant-loop-event
invariant-loop-event l = Puts (event_list (take l.event-index l.trace)) l.initial.self l.self
