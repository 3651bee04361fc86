-- `trace_back::read_back`: recursion on the number of events left, from the last event to the first.
use Rattle.search.proofs.trace_back.+read_back.Given as goal

abbrev pub decreases-read_back : goal.decreases-read_back
decreases-read_back l = l.d
