-- After j rounds the first j places hold the walk's first events.
use Rattle.load.proofs.Going.{Going}
use Rattle.load.proofs.walk_tables.Given as goal

abbrev pub invariant-loop-j : goal.invariant-loop-j
invariant-loop-j l = Going l.lists l.counts l.next l.seed l.wish l.initial.out l.out l.x l.v l.j
