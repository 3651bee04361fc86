-- After n rounds the words of the first n nodes are filled in.
use Rattle.base.proofs.Loops.{Filling}
use Rattle.verdicts_tables.specs.Shapes.{late_words}
use Rattle.verdicts_tables.proofs.late_words.Given as goal

abbrev pub invariant-loop-n : goal.invariant-loop-n
invariant-loop-n l = Filling (late_words l.trace_only l.strays l.mine l.theirs l.q) 0 32 l.n l.words
