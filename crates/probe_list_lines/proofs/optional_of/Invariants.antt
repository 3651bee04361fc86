-- After j rounds the initials are left that stand in none of the first j acceptances.
use Rattle.std.proofs.Common.{◌≡◌}
use Rattle.probe_list_lines.specs.Shapes.{unaccepted}
use Rattle.probe_list_lines.proofs.optional_of.Given as goal

abbrev pub invariant-loop-j : goal.invariant-loop-j
invariant-loop-j l = (l.j-end ≡ l.row.c) × (l.rest ≡ unaccepted l.e l.row l.j)
