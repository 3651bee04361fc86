-- `trace_back::put_front`. The loop's invariant: the first i events are written, the rest of the list is as it was.
use mathlib.Core.Path.{◌≡◌}
use mathlib.Core.List.{◌++◌}
use Prim.Native.Nat.{◌≤◌}
use lib.ListN.{length, drop}
use Rattle.search_theory.specs.Read.{front_of}
use Rattle.search.proofs.trace_back.put_front.Given as goal

abbrev pub invariant-loop-i : goal.invariant-loop-i
invariant-loop-i l = (l.i ≤ l.d) × (l.trace ≡ front_of l.events l.i ++ drop l.i l.initial.trace) × (length l.trace ≡ length l.initial.trace)
