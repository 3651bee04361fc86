-- After j rounds the first j places are filled.
use Rattle.base.proofs.Loops.{Filling}
use Rattle.verdicts_tables.specs.Shapes.{bit_at}
use Rattle.verdicts_tables.proofs.bits_of.Given as goal

abbrev pub invariant-loop-j : goal.invariant-loop-j
invariant-loop-j l = Filling (bit_at l.table l.q) 0 384 l.j l.bits
