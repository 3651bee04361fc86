-- After i rounds it is the check number with the first i places more.
use Rattle.std.specs.Prelude.{◌≡◌}
use Rattle.cases_lines.specs.Lines.{check_up_to}
use Rattle.cases_lines.proofs.check_of.Given as goal

abbrev pub invariant-loop-x : goal.invariant-loop-x
invariant-loop-x l = l.check ≡ check_up_to l.list l.fn.check l.x-index
