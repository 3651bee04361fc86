-- From no node nothing is placed; else after i rounds the pairs of the first i events are.
use mathlib.Core.Path.{◌≡◌}
use Prim.Native.Nat.{◌≤◌}
use Rattle.verdicts_layers.specs.ImageShapes.{spread}
use Rattle.verdicts_layers.proofs.images.spread.Given as goal

abbrev pub invariant-loop-i : goal.invariant-loop-i
invariant-loop-i l = (l.i ≤ l.e) × (l.out ≡ spread l.initial.out l.mine l.theirs l.n l.p l.from l.i)
