-- `sheet_rows::initials_of`. The loop's invariant: the set has the initials below `i`.
use mathlib.Core.Path.{◌≡◌}
use Prim.Native.Nat.{◌≤◌}
use Rattle.sheet_rows.proofs.Steps.{initial}
use Rattle.events.specs.Bit.{set_of}
use Rattle.sheet_rows.proofs.initials_of.Given as goal

abbrev pub invariant-loop-i : goal.invariant-loop-i
invariant-loop-i l = (l.i ≤ 12) × (l.set ≡ set_of (initial l.e l.row) l.i)
