-- After m rounds the places of the first m pairs of node n are filled too.
use Prim.Native.Nat.{◌+◌, ◌*◌, ◌≤◌}
use Rattle.scripts.specs.Shapes.{next_cell, Filled}
use Rattle.scripts.proofs.tables.fill_row.Given as goal

abbrev pub invariant-loop-m : goal.invariant-loop-m
invariant-loop-m l = (l.m ≤ l.q) × Filled (next_cell l.a l.b l.p l.q l.e l.before) (l.n * l.q + l.m) l.after
