-- After n rounds the words of the first n nodes are filled in.
use Rattle.base.proofs.Loops.{Filling}
use Rattle.verdicts_tables.specs.Shapes.{stray_words}
use Rattle.verdicts_tables.proofs.stray_words.Given as goal

abbrev pub invariant-loop-n : goal.invariant-loop-n
invariant-loop-n l = Filling (stray_words l.mine l.theirs l.q) 0 32 l.n l.words
