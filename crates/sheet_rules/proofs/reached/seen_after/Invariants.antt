-- The loop's invariant: the set is that of k rounds.
use mathlib.Core.Path.{◌≡◌}
use Prim.Native.Nat.{◌≤◌}
use Rattle.sheet_rules.specs.ReachShapes.{rounds}
use Rattle.sheet_rules.proofs.reached.seen_after.Given as goal

abbrev pub invariant-loop-k : goal.invariant-loop-k
invariant-loop-k l = (l.seen ≡ rounds l.sets l.n l.k) × (l.k ≤ l.n)
