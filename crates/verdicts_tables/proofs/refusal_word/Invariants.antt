-- After m rounds the first m nodes are looked at.
use Rattle.refinement_spec.specs.ViolatingPairs.{has_refusal}
use Rattle.sheet_rows.specs.Tables.{row_in}
use Rattle.verdicts_tables.proofs.Words.{Gathers}
use Rattle.verdicts_tables.proofs.refusal_word.Given as goal

abbrev pub invariant-loop-m : goal.invariant-loop-m
invariant-loop-m l = Gathers (λ m. has_refusal l.row (row_in l.rows m)) l.q l.m l.set
