-- After m rounds the first m nodes are looked at.
use Rattle.sheet_spec.specs.Kept.{may_stop}
use Rattle.sheet_rows.specs.Tables.{row_in}
use Rattle.verdicts_tables.proofs.Words.{Gathers}
use Rattle.verdicts_tables.proofs.stop_word.Given as goal

abbrev pub invariant-loop-m : goal.invariant-loop-m
invariant-loop-m l = Gathers (λ m. may_stop (row_in l.rows m)) l.q l.m l.set
