-- The tests are those of the definition, the last one first.
use mathlib.Core.Path.{◌∙◌}
use Prim.Native.Nat.{◌≤◌}
use native.Mathlib.Nat.{mul-le-mul}
use native.Mathlib.Omega.{arith}
use Rattle.scripts.proofs.tables.Cells.{told_both, told_reference, told_device}
use Rattle.scripts.proofs.tables.place_of.Goals as goal
use Rattle.scripts.proofs.tables.place_of.Goals.{then-n-p, else-n-p}

pub overflow_mul-place : goal.overflow_mul-place
overflow_mul-place c =
    let h : c.from-n.result ≤ 255 = omega (arith, c.from-n.ensures) in
    omega (arith, mul-le-mul h c.requires.1)

pub overflow_add-place : goal.overflow_add-place
overflow_add-place c =
    let h : c.from-n.result ≤ 255 = omega (arith, c.from-n.ensures) in
    omega (arith, mul-le-mul h c.requires.1, c.from-m.ensures)

pub overflow_mul-place-then-n-p : goal.overflow_mul-place-then-n-p
overflow_mul-place-then-n-p c = let s = c.requires in omega (arith, mul-le-mul s.0 s.1)

pub overflow_mul-place-then-m-q : goal.overflow_mul-place-then-m-q
overflow_mul-place-then-m-q c = let s = c.requires in omega (arith, mul-le-mul s.0 s.1)

pub overflow_add-place-then-m-q : goal.overflow_add-place-then-m-q
overflow_add-place-then-m-q c = let s = c.requires in omega (arith, mul-le-mul s.0 s.1)

pub returns-then-m-q : goal.returns-then-m-q
returns-then-m-q c = told_device _ _ _ _ _ _ c.from-n.ensures c.from-m.ensures c.if-m-q.true

pub returns-else-m-q : goal.returns-else-m-q
returns-else-m-q c =
    elim c.if-n-p.branch [
      | then-n-p w ↦ w.place-is ∙ told_reference _ _ _ _ _ _ c.from-n.ensures c.from-m.ensures c.if-m-q.false w.if-n-p.true
      | else-n-p w ↦ w.place-is ∙ told_both _ _ _ _ _ _ c.from-n.ensures c.from-m.ensures c.if-m-q.false w.if-n-p.false
    ]
