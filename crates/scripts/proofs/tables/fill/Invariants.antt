-- After n rounds the places of the pairs of the first n nodes are filled.
use Prim.Native.Nat.{◌*◌, ◌≤◌}
use Rattle.scripts.specs.Shapes.{next_cell, Filled}
use Rattle.scripts.proofs.tables.fill.Given as goal

abbrev pub invariant-loop-n : goal.invariant-loop-n
invariant-loop-n l = (l.n ≤ l.p) × Filled (next_cell l.a l.b l.p l.q l.e l.before) (l.n * l.q) l.after
