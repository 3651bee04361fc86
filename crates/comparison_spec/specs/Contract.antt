-- The contract of a comparison: its answer, the number of its refusal, and the two lent lists at exit, as equations.
use Rattle.std.specs.Prelude.{◌≡◌, Bool, List, ℕ, Result}
use Rattle.sheet_spec.specs.declared.Sheet.{Sheet}
use Rattle.comparison_spec.specs.declared.Outcome.{Outcome}
use Rattle.comparison_spec.specs.Comparison.{compare_fault, outcome_of, trace_after, work_after}
use Rattle.comparison_spec.specs.Numbers.{compared}

-- What `compare` promises: its answer, the number of its refusal, 0 for none, and the two lent lists at exit.
pub record Compares (trace_only : Bool) (P Q : Sheet) (work trace work' trace' : List ℕ) (r : Result Outcome ℕ) : Type 0 where
  pub answer : r ≡ outcome_of trace_only P Q work trace
  pub numbers : (compared r).refusal ≡ compare_fault P Q work trace
  pub traced : trace' ≡ trace_after trace_only P Q work trace
  pub zeroed : work' ≡ work_after P Q work trace
