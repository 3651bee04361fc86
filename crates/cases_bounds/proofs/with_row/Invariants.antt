-- `cases_bounds::with_row` goes over the numbers from `begin` to below `end`, which is at most 256.
use Prim.Native.Nat.{◌≤◌}
use Rattle.cases_bounds.proofs.with_row.Given as goal

abbrev pub invariant-loop-q : goal.invariant-loop-q
invariant-loop-q l = l.end ≤ 256
