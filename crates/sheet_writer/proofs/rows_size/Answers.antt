use Rattle.std.proofs.Common.{arith}
use Rattle.sheet_writer.proofs.WriterLaws.{size_start, size_next, count_few}
use Rattle.sheet_writer.proofs.rows_size.Goals as goal

pub loop-row-init : goal.loop-row-init
loop-row-init c = (size_start c.args.s.now.e, omega arith)

pub loop-row-preserved : goal.loop-row-preserved
loop-row-preserved c =
    let s = c.args.s.now in
    let l = c.loop-row in
    let r = c.requires in
    let t = rw c.from.ensures at c.loop-row-test.true in
    rw (c.from-in-loop-row.ensures, c.from-in-loop-row-2.ensures, c.from.ensures)
    (size_next s r.form r.small l.row-index t l.invariant.0, omega (arith, l.invariant.1, r.small.e_high, count_few s r.small l.row-index t))
