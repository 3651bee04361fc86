-- `cases_pairs::bytes_of` goes over 60 places.
use Prim.Native.Nat.{◌≤◌}
use Rattle.cases_pairs.proofs.bytes_of.Given as goal

abbrev pub invariant-loop-i : goal.invariant-loop-i
invariant-loop-i l = l.i ≤ 60
