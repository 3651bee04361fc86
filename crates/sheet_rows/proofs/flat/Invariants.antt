-- After v rounds the places of the first v nodes are filled.
use Prim.Native.Nat.{◌*◌}
use Rattle.base.proofs.Loops.{Filling}
use Rattle.sheet_rows.specs.Tables.{flat_at}
use Rattle.sheet_rows.proofs.flat.Given as goal

abbrev pub invariant-loop-v : goal.invariant-loop-v
invariant-loop-v l = Filling (flat_at l.rows) 255 384 (l.v * 12) l.table
