-- `cases_pairs::alike_in`. After i rounds the count is at most i.
use Prim.Native.Nat.{◌≤◌}
use Rattle.cases_pairs.proofs.alike_in.Given as goal

abbrev pub invariant-loop-i : goal.invariant-loop-i
invariant-loop-i l = (l.count ≤ l.i) × (l.i ≤ 256)
