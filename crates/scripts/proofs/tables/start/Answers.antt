use mathlib.Core.Path.{refl}
use native.Mathlib.Nat.{mul-le-mul}
use native.Mathlib.Omega.{arith}
use Rattle.scripts.specs.Shapes.{one}
use Rattle.scripts.proofs.tables.Cells.{filled_none, filled_more, filled_as}
use Rattle.scripts.proofs.tables.start.Goals as goal

pub overflow_mul-pairs : goal.overflow_mul-pairs
overflow_mul-pairs c = omega (arith, mul-le-mul c.requires.0 c.requires.1)

pub loop-c-init : goal.loop-c-init
loop-c-init c = (omega arith, omega (arith, mul-le-mul c.requires.0 c.requires.1), refl, filled_none (λ k. one) _ _ c.requires.2 refl)

pub store-requires : goal.store-requires
store-requires c = let i = c.loop-c.invariant in (omega (arith, i.1), i.3.long)

pub overflow_step-c : goal.overflow_step-c
overflow_step-c c = omega (arith, c.loop-c.invariant.1)

pub loop-c-preserved : goal.loop-c-preserved
loop-c-preserved c =
    let i = c.loop-c.invariant in
    (omega arith, i.1, i.2, filled_more (λ k. one) _ _ _ _ i.3 c.store.ensures refl)

pub returns : goal.returns
returns c = let i = c.loop-c.invariant in filled_as (λ k. one) _ _ _ (omega (arith, i.0, i.2)) i.3
