-- The lines of a comparison's answer, where the lists lent to it held zeros.
use mathlib.Core.Path.{◌≡◌}
use mathlib.Core.Bool.{false}
use mathlib.Core.List.{List}
use Prim.Native.Nat.{ℕ}
use lib.ListN.{replicate}
use Rattle.sheet_spec.specs.declared.Sheet.{Sheet}
use Rattle.std.specs.Prelude.{Result}
use Rattle.comparison_spec.specs.declared.Outcome.{Outcome}
use Rattle.comparison_spec.specs.Comparison.{outcome_of, trace_after}
use Rattle.compare_lines_spec.specs.Lines.{outcome_lines}
use Rattle.compare_lines_spec.specs.Program.{work_list, trace_list, compared_lines}

pub compared_is : (P Q : Sheet) {o : Result Outcome ℕ} {trace : List ℕ} → o ≡ outcome_of false P Q (replicate 2048 0) (replicate 1023 0)
    → trace ≡ trace_after false P Q (replicate 2048 0) (replicate 1023 0) → outcome_lines o trace ≡ compared_lines P Q
unfolding compared_lines work_list trace_list
compared_is P Q e t = rw (e, t)
