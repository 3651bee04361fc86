-- After v rounds the size is that of the rows of the first v nodes.
use Rattle.std.specs.Prelude.{◌≡◌, ◌*◌, ◌≤◌, length, take}
use Rattle.sheet_spec.specs.Encoding.{encode_rows}
use Rattle.sheet_writer.proofs.rows_size.Given as goal

abbrev pub invariant-loop-row : goal.invariant-loop-row
invariant-loop-row l = (l.size ≡ length (encode_rows l.s.e (take l.row-index (take l.s.n l.s.rows)))) × (l.size ≤ l.row-index * 45)
