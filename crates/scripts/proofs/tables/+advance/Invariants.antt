-- `tables::advance`: recursion on the number of events that are left.
use Rattle.std.proofs.Common.{◌-◌}
use Rattle.scripts.proofs.tables.+advance.Given as goal

abbrev pub decreases-advance : goal.decreases-advance
decreases-advance l = l.wanted - l.l
