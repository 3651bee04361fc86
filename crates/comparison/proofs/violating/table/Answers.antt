use native.Mathlib.Omega.{arith}
use Rattle.base.proofs.Loops.{empty, stored}
use Rattle.comparison.proofs.violating.Pairs.{pairs_most, bad_is, bad_all}
use Rattle.comparison.proofs.violating.table.Goals as goal

pub loop-k-init : goal.loop-k-init
loop-k-init c = (omega arith, empty)

pub loop-k-preserved : goal.loop-k-preserved
loop-k-preserved c =
    let l = c.loop-k in
    let w = c in
    let s = w in
    let h = bad_is s.args.reference s.args.device s.requires w.from-e.ensures w.from.ensures w.from-q.ensures _ _ _ l.k c.loop-k-test.true c.all_initials-xs.ensures c.all_initials-ys.ensures _ c.is_violating.ensures in
    (omega arith, stored l.invariant.1 (omega (arith, pairs_most s.args.reference s.args.device s.requires w.from-e.ensures w.from.ensures w.from-q.ensures)) h)

pub returns : goal.returns
returns c =
    let l = c.loop-k in
    let w = c in
    let s = w in
    bad_all s.args.reference s.args.device s.requires w.from-e.ensures w.from.ensures w.from-q.ensures _ _ l.k l.invariant.0 c.loop-k-test.false l.invariant.1
