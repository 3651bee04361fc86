-- After c rounds the first c places hold one script, which both walk.
use mathlib.Core.Path.{◌≡◌}
use Prim.Native.Nat.{◌*◌, ◌≤◌}
use Rattle.scripts.specs.Shapes.{one, Filled}
use Rattle.scripts.proofs.tables.start.Given as goal

abbrev pub invariant-loop-c : goal.invariant-loop-c
invariant-loop-c l = (l.c ≤ l.pairs) × (l.pairs ≤ 1024) × (l.pairs ≡ l.p * l.q) × Filled (λ k. one) l.c l.table
