-- After i rounds the events of the set below i are listed.
use mathlib.Core.Path.{◌≡◌}
use Prim.Native.Nat.{◌≤◌}
use lib.ListN.{length}
use Rattle.events.specs.Lists.{events_in}
use Rattle.load.specs.Shapes.{Listed}
use Rattle.load.proofs.list_events.Given as goal

abbrev pub invariant-loop-i : goal.invariant-loop-i
invariant-loop-i l = (l.i ≤ 12) × (l.count ≤ l.i) × (l.count ≡ length (events_in l.set l.i)) × Listed l.set l.v l.i l.initial.lists l.lists
