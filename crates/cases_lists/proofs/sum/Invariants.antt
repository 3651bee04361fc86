-- `cases_lists::sum`. After some rounds the sum is at most that of so many sets of all events.
use Rattle.std.proofs.Common.{◌*◌, ◌≤◌}
use Rattle.cases_lists.proofs.sum.Given as goal

abbrev pub invariant-loop-set : goal.invariant-loop-set
invariant-loop-set l = l.total ≤ 4095 * l.set-index
