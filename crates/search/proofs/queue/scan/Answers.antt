use mathlib.Core.Path.{◌≡◌, refl, ◌∙◌}
use native.Mathlib.Omega.{arith}
use Rattle.search_theory.proofs.Steps.{scan_seat, scan_none, scan_next, scan_step_ok, scan_end}
use Rattle.search.proofs.queue.scan.Goals as goal

pub entry_at-at-requires : goal.entry_at-at-requires
entry_at-at-requires c =
    let o = c.requires in
    let s = scan_seat _ _ _ _ _ _ _ _ o in
    (omega (arith, s), omega (arith, s), o.sizes.some_q, o.sizes.columns)

pub loop-k-init : goal.loop-k-init
loop-k-init c = (omega arith, scan_none _ _ _ _, refl)

pub try_event-t-requires : goal.try_event-t-requires
try_event-t-requires c =
    let at = c.entry_at-at.ensures in
    rw at.0
    (scan_step_ok _ _ _ _ _ _ _ _ c.requires _ _ at.1 at.2 _ _ c.loop-k-test.true
    (rw at.0 at c.loop-k.invariant.1))

pub loop-k-preserved : goal.loop-k-preserved
loop-k-preserved c = (
  omega arith,
  scan_next _ _ _ _ _ _ _ c.loop-k.invariant.1 c.try_event-t.ensures,
  c.try_event-t.auto.work ∙ c.loop-k.invariant.2,
)

pub shape_of-work : goal.shape_of-work
shape_of-work c = c.loop-k.invariant.2

pub returns : goal.returns
returns c =
    let i : c.loop-k.k ≡ c.args.e = omega arith in
    let at = c.entry_at-at.ensures in
    scan_end _ _ _ _ _ _ _ _ c.requires _ _ at.1 at.2 _ _ (rw (i, at.0) at c.loop-k.invariant.1)
