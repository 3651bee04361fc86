-- After k layers the first k verdicts are written, and what was seen and the layer give all the others.
use Rattle.verdicts_layers.proofs.Rounds.{Judged}
use Rattle.verdicts_layers.proofs.write_verdicts.Given as goal

abbrev pub invariant-loop-k : goal.invariant-loop-k
invariant-loop-k l = Judged l.mine l.theirs l.early l.late l.p l.e l.total l.initial.out l.k l.layer l.faulty l.out
