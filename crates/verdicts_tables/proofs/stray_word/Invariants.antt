-- After m rounds the first m nodes are looked at.
use mathlib.Core.Bool.{not}
use lib.Dec.{eqb}
use lib.ListN.{get_or}
use Rattle.refinement_spec.specs.ViolatingPairs.{strays}
use Rattle.verdicts_tables.proofs.Words.{Gathers}
use Rattle.verdicts_tables.proofs.stray_word.Given as goal

abbrev pub invariant-loop-m : goal.invariant-loop-m
invariant-loop-m l = Gathers (λ m. not (eqb (strays l.mine (get_or l.theirs m 0)) 0)) l.q l.m l.set
