use mathlib.Core.Path.{◌≡◌}
use native.Mathlib.Nat.{zero-mul}
use native.Mathlib.Omega.{arith}
use Rattle.scripts.proofs.tables.Cells.{filled_none}
use Rattle.scripts.proofs.tables.fill.Goals as goal

pub loop-n-init : goal.loop-n-init
loop-n-init c = (omega arith, filled_none _ _ _ c.requires.2 (zero-mul c.args.q))

pub fill_row-requires : goal.fill_row-requires
fill_row-requires c =
    let s = c.requires in
    (s.0, c.loop-n-test.true, s.1, c.loop-n.invariant.1)

pub overflow_step-n : goal.overflow_step-n
overflow_step-n c = omega (arith, c.requires.0.p_few)

pub loop-n-preserved : goal.loop-n-preserved
loop-n-preserved c = (omega arith, c.fill_row.ensures)

pub returns : goal.returns
returns c = let e : c.loop-n.n ≡ c.args.p = omega arith in rw e at c.loop-n.invariant.1
