use native.Mathlib.Omega.{arith}
use native.Mathlib.Numerals.{add-one}
use Rattle.sheet_spec.specs.Spelling.{start_of}
use Rattle.base.proofs.Loops.{empty, stored, filled}
use Rattle.sheet_bytes.proofs.rows_of.Goals as goal

pub loop-v-init : goal.loop-v-init
unfolding start_of
loop-v-init c = (omega arith, c.nodes_at-at.ensures.0, rw c.unused_row-rows.ensures empty)

pub row_of-requires : goal.row_of-requires
row_of-requires c = (omega arith, omega arith, c.loop-v.invariant.1)

pub loop-v-preserved : goal.loop-v-preserved
unfolding start_of
loop-v-preserved c = let l = c.loop-v in (omega arith, rw add-one (cc), stored l.invariant.2 (omega arith) c.row_of.ensures)

pub returns : goal.returns
returns c = search filled
