-- `events::contains`: a shifted set's lowest digit is the event's.
use mathlib.Core.Path.{refl, sym}
use native.Mathlib.Omega.{arith}
use Rattle.events.specs.Bit.{bit}
use Rattle.events.specs.Sets.{has}
use Rattle.events.proofs.Sets.{has_high}
use Rattle.events.proofs.contains.Goals as goal

pub returns-then-event-lt16 : goal.returns-then-event-lt16
unfolding has bit
returns-then-event-lt16 c = refl

pub returns-else-event-lt16 : goal.returns-else-event-lt16
returns-else-event-lt16 c = sym (has_high c.args.set c.args.event (omega arith) c.if-event-lt16.false)
