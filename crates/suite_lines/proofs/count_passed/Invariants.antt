-- After k rounds the passing ones among the first k tests are counted.
use Rattle.std.specs.Prelude.{◌≡◌, ◌≤◌}
use Rattle.suite_lines_spec.specs.Lines.{passed_of}
use Rattle.suite_lines.proofs.count_passed.Given as goal

abbrev pub invariant-loop-k : goal.invariant-loop-k
invariant-loop-k l = (l.k ≤ l.n) × (l.passed ≡ passed_of l.verdicts l.k) × (l.passed ≤ l.k)
