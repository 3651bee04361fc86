-- After k rounds the lines of the first k tests are put.
use Rattle.std.specs.Prelude.{◌≤◌}
use Rattle.text.specs.Pages.{Puts}
use Rattle.suite_lines_spec.specs.Lines.{test_lines}
use Rattle.suite_lines.proofs.put_test_lines.Given as goal

abbrev pub invariant-loop-k : goal.invariant-loop-k
invariant-loop-k l = (l.k ≤ l.n) × Puts (test_lines l.verdicts l.k) l.initial.page l.page
