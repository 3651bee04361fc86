use native.Mathlib.Omega.{arith}
use Rattle.base.proofs.Loops.{empty, filled}
use Rattle.sheet_rows.proofs.Tables.{row_stored}
use Rattle.sheet_rows.proofs.flat.Goals as goal

pub loop-v-init : goal.loop-v-init
loop-v-init c = empty

pub loop-v-preserved : goal.loop-v-preserved
loop-v-preserved c = row_stored c.args.rows c.loop-v.invariant (omega arith) c.put_row.array_long c.put_row.ensures

pub returns : goal.returns
returns c = filled c.loop-v.invariant (omega arith)
