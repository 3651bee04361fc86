-- After v rounds the rows of the first v nodes are put.
use Rattle.std.specs.Prelude.{take}
use Rattle.sheet_spec.specs.Encoding.{encode_rows}
use Rattle.text.specs.Pages.{Puts}
use Rattle.sheet_writer.proofs.put_rows.Given as goal

abbrev pub invariant-loop-row : goal.invariant-loop-row
invariant-loop-row l = Puts (encode_rows l.s.e (take l.row-index (take l.s.n l.s.rows))) l.initial.page l.page
