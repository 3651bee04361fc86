-- `search::settle`: the answer at the first bad entry, or without one.
use mathlib.Core.Path.{refl}
use native.Mathlib.Omega.{arith}
use Rattle.search_theory.proofs.Read.{settle_bad, settle_clear, settle_rest}
use Rattle.search.proofs.settle.Goals as goal

pub node_at-node-requires : goal.node_at-node-requires
node_at-node-requires c = omega (arith, c.requires.1.some c.if-stop.true)

pub write_trace-requires : goal.write_trace-requires
write_trace-requires c =
    let o = c.requires.1 in
    let l = c.if-stop.true in
    (o.back l, o.fits l)

pub nonzero_div-result : goal.nonzero_div-result
nonzero_div-result c = omega (arith, c.requires.0)

pub nonzero_rem-result : goal.nonzero_rem-result
nonzero_rem-result c = omega (arith, c.requires.0)

pub shape_of-work-then-stop : goal.shape_of-work-then-stop
shape_of-work-then-stop c = c.write_trace.auto.work

pub shape_of-trace-then-stop : goal.shape_of-trace-then-stop
shape_of-trace-then-stop c = c.write_trace.auto.trace

pub returns-then-stop : goal.returns-then-stop
returns-then-stop c =
    let w = c.write_trace.ensures in
    let l = c.if-stop.true in
    let o = c.requires.1 in
    let r = settle_bad _ _ _ _ _ _ _ _ _ _ l c.node_at-node.ensures w.0 in
    (r.0, r.1, settle_rest _ _ _ _ (o.back l) w.1)

pub returns : goal.returns
returns c = let r = settle_clear _ _ _ _ _ _ _ _ c.if-stop.false in (r.0, r.1, refl)
