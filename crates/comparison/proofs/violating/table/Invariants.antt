-- `violating::table`. After k rounds the first k pairs are told in the table.
use mathlib.Core.Bool.{false}
use Prim.Native.Nat.{◌≤◌}
use Rattle.base.proofs.Loops.{Filling}
use Rattle.comparison.specs.ViolatingTable.{violating_at}
use Rattle.comparison.proofs.violating.table.Given as goal

abbrev pub invariant-loop-k : goal.invariant-loop-k
invariant-loop-k l = (l.k ≤ l.n) × Filling (violating_at l.trace_only l.reference l.device) false 1024 l.k l.table
