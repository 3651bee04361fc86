-- `cases_bounds::tally_of` goes over the numbers from `begin` to below `end`, which is at most 256.
use Prim.Native.Nat.{◌≤◌}
use Rattle.cases_bounds.proofs.tally_of.Given as goal

abbrev pub invariant-loop-p : goal.invariant-loop-p
invariant-loop-p l = l.end ≤ 256
