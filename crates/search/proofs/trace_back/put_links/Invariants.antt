-- `trace_back::put_links`. The loop's invariant: the links of the first x entries are in their places, the other words
-- are as they were.
use mathlib.Core.Path.{◌≡◌}
use Prim.Native.Nat.{◌≤◌}
use lib.ListN.{length}
use Rattle.search_theory.specs.Read.{linked}
use Rattle.search.proofs.trace_back.put_links.Given as goal

abbrev pub invariant-loop-x : goal.invariant-loop-x
invariant-loop-x l = (l.x ≤ l.m) × (l.work ≡ linked l.n l.initial.work l.x) × (length l.work ≡ length l.initial.work)
