-- After n rounds the words of the first n nodes are filled in.
use Rattle.base.proofs.Loops.{Filling}
use Rattle.verdicts_tables.specs.Shapes.{early_words}
use Rattle.verdicts_tables.proofs.early_words.Given as goal

abbrev pub invariant-loop-n : goal.invariant-loop-n
invariant-loop-n l = Filling (early_words l.trace_only l.strays l.mine l.stops) 0 32 l.n l.words
