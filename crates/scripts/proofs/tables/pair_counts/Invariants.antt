-- After i rounds the sums are those over the places of the first i events.
use mathlib.Core.Path.{◌≡◌}
use Prim.Native.Nat.{◌≤◌}
use Rattle.scripts.specs.Shapes.{place_sums}
use Rattle.scripts.proofs.tables.pair_counts.Given as goal

abbrev pub invariant-loop-i : goal.invariant-loop-i
invariant-loop-i l = (l.i ≤ l.e) × (l.s ≡ place_sums l.a l.b l.p l.q l.before l.n l.m l.i)
