-- `rows::targets_of`. The loop's invariant: the set has the nodes to which the events below `i` lead.
use mathlib.Core.Path.{◌≡◌}
use Prim.Native.Nat.{◌≤◌}
use Rattle.sheet_rules.specs.RowShapes.{targets}
use Rattle.sheet_rules.proofs.rows.targets_of.Given as goal

abbrev pub invariant-loop-i : goal.invariant-loop-i
invariant-loop-i l = (l.i ≤ l.e) × (l.set ≡ targets l.i l.row)
