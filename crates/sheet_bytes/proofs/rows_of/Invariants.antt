-- After v rounds the first v rows are filled and the place is where node v begins.
use mathlib.Core.Path.{◌≡◌}
use Prim.Native.Nat.{◌+◌, ◌*◌, ◌≤◌}
use Rattle.sheet_spec.specs.Spelling.{start_of, unused_row, row_of}
use Rattle.base.proofs.Loops.{Filling}
use Rattle.sheet_bytes.proofs.rows_of.Given as goal

abbrev pub invariant-loop-v : goal.invariant-loop-v
invariant-loop-v l = (l.at ≤ 517 + l.v * 766) × (l.at ≡ start_of l.bytes l.e l.v) × Filling (row_of l.bytes l.e l.n) unused_row 32 l.v l.rows
