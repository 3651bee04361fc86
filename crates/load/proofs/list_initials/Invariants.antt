-- After v rounds the tables have the initials of the first v nodes.
use Prim.Native.Nat.{◌≤◌}
use Rattle.load.specs.Shapes.{Tabled}
use Rattle.load.proofs.list_initials.Given as goal

abbrev pub invariant-loop-v : goal.invariant-loop-v
invariant-loop-v l = (l.v ≤ l.n) × Tabled l.rows l.e l.v l.lists l.counts
