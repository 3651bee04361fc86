use mathlib.Core.Path.{sym, ◌∙◌}
use native.Mathlib.Omega.{arith}
use Rattle.search_theory.proofs.Tables.{bad_code_at}
use Rattle.search_theory.proofs.Steps.{seat, run_visit_ok, run_start, start_rest, before_here, shallow, run_more, run_hit, run_over}
use Rattle.search.proofs.queue.explore.Goals as goal

pub visit-t-requires : goal.visit-t-requires
visit-t-requires c = (run_visit_ok _ _ _ _ _ c.requires, omega arith)

pub loop-h-init : goal.loop-h-init
loop-h-init c =
    let o = c.requires in
    before_here _ _ _ _ _ _ _ _ (run_start _ _ _ _ _ _ _ o _ _ c.visit-t.ensures)

pub is_bad-requires : goal.is_bad-requires
is_bad-requires c =
    let z = c.requires.sizes in
    let s = seat _ _ _ _ _ _ _ _ _ _ z c.loop-h.invariant.running _ c.loop-h-test.true in
    (omega (arith, s), omega (arith, s))

pub shape_of-work-then-is_bad : goal.shape_of-work-then-is_bad
shape_of-work-then-is_bad c = c.loop-h.invariant.long ∙ c.visit-t.auto.work

pub returns-then-is_bad : goal.returns-then-is_bad
returns-then-is_bad c =
    let o = c.requires in
    let v = c.visit-t.ensures in
    run_hit _ _ _ _ _ _ _ _ _ _ _ _ _ o.sizes c.loop-h.invariant _ (start_rest _ _ _ _ _ _ _ o _ v)
    (bad_code_at _ _ _ ∙ sym c.is_bad.ensures ∙ c.if-is_bad.true)

pub scan-t-requires : goal.scan-t-requires
scan-t-requires c = record {
  sizes = c.requires.sizes;
  far = c.loop-h.invariant.far;
  running = c.loop-h.invariant.running;
  here = c.loop-h-test.true;
}

pub overflow_add-h : goal.overflow_add-h
overflow_add-h c =
    let z = c.requires.sizes in
    let l = c.loop-h.invariant in
    omega (arith, seat _ _ _ _ _ _ _ _ _ _ z l.running _ c.loop-h-test.true)

pub level_at-level-requires : goal.level_at-level-requires
level_at-level-requires c =
    let z = c.requires.sizes in
    shallow _ _ _ _ _ _ _ _ _ _ _ _ _ z c.loop-h.invariant c.loop-h-test.true

pub loop-h-smaller : goal.loop-h-smaller
loop-h-smaller c =
    let z = c.requires.sizes in
    let l = c.loop-h.invariant in
    omega (arith, seat _ _ _ _ _ _ _ _ _ _ z l.running _ c.loop-h-test.true)

pub loop-h-preserved : goal.loop-h-preserved
loop-h-preserved c =
    let z = c.requires.sizes in
    let next = c.level_at-level.ensures in
    run_more _ _ _ _ _ _ _ _ _ _ _ _ _ z c.loop-h.invariant _ _ _ _ c.loop-h-test.true
    (bad_code_at _ _ _ ∙ sym c.is_bad.ensures ∙ c.if-is_bad.false) c.scan-t.ensures next.0 next.1 next.2

pub shape_of-work : goal.shape_of-work
shape_of-work c = c.loop-h.invariant.long ∙ c.visit-t.auto.work

pub returns : goal.returns
returns c =
    let o = c.requires in
    let v = c.visit-t.ensures in
    run_over _ _ _ _ _ _ _ _ _ _ _ _ _ o.sizes c.loop-h.invariant _ (start_rest _ _ _ _ _ _ _ o _ v) c.loop-h-test.false
