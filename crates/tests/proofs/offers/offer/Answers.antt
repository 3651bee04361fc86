-- `offers::offer`: no initial is outside the events.
use Rattle.std.proofs.Common.{arith}
use Rattle.probes.proofs.Lists.{sheet_events}
use Rattle.tests.proofs.offers.Offers.{inside}
use Rattle.tests.proofs.offers.offer.Goals as goal

pub overflow_sub-result : goal.overflow_sub-result
overflow_sub-result c = rw (c.initials_of.ensures, c.all_events-all.ensures) (inside _ _ (omega (arith, sheet_events c.args.sheet.now c.requires.0)))
