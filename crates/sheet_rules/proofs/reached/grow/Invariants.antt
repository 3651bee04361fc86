-- The loop's invariant: the set is that of one round over the first u nodes.
use mathlib.Core.Path.{◌≡◌}
use Prim.Native.Nat.{◌≤◌}
use Rattle.sheet_rules.specs.ReachShapes.{grown}
use Rattle.sheet_rules.proofs.reached.grow.Given as goal

abbrev pub invariant-loop-u : goal.invariant-loop-u
invariant-loop-u l = (l.next ≡ grown l.sets l.seen l.u) × (l.u ≤ l.n)
