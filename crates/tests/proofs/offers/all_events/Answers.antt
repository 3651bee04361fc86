-- The shifted one is 2 to the power e.
use Rattle.std.proofs.Common.{arith}
use Rattle.events.proofs.Bit.{one_shifted}
use Rattle.tests_spec.specs.Runs.{all_events}
use Rattle.tests.proofs.offers.all_events.Goals as goal

pub returns : goal.returns
unfolding all_events
returns c = rw (one_shifted 16 c.args.e (omega arith))
