-- After n rounds the pairs reached from the first n nodes of the reference are placed.
use mathlib.Core.Path.{◌≡◌}
use Prim.Native.Nat.{◌≤◌}
use Rattle.verdicts_layers.specs.ImageShapes.{next}
use Rattle.verdicts_layers.proofs.images.next.Given as goal

abbrev pub invariant-loop-n : goal.invariant-loop-n
invariant-loop-n l = (l.n ≤ l.p) × (l.out ≡ next l.mine l.theirs l.p l.e l.layer l.n)
