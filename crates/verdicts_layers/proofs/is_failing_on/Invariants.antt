-- Before each layer, what is left of the test gives the whole answer.
use Rattle.verdicts_layers.proofs.Rounds.{Left}
use Rattle.verdicts_layers.proofs.is_failing_on.Given as goal

abbrev pub invariant-loop-j : goal.invariant-loop-j
invariant-loop-j l = Left l.mine l.theirs l.early l.late l.p l.e l.k l.j l.layer
