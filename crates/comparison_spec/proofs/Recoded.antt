-- Nothing to believe: laws. Codes play no part in a comparison but by its refusals: sheets that are alike but for codes
-- get the same answer and leave the same lists, wherever neither pair is refused.
use Rattle.std.specs.Prelude.{◌≡◌, Bool, List, ℕ, Ok}
use Rattle.std.proofs.Math.Path.{refl}
use Rattle.std.proofs.Common.{sym, ap, ◌∙◌}
use borrow.Author.Tests.{eq-eqb}
use Rattle.sheet_spec.specs.declared.Sheet.{Sheet}
use Rattle.sheet_spec.specs.Kept.{recoded, step}
use Rattle.refinement_spec.specs.ViolatingPairs.{violating}
use Rattle.comparison_spec.specs.declared.Outcome.{Outcome}
use Rattle.comparison_spec.specs.Comparison.{pair_count, nearest, nearest_trace, cleared_of, last_row, comparison_of, compare_fault, outcome_of, trace_after, work_after}
use Rattle.comparison_spec.proofs.CallLaws.{given_outcome}

module _ (trace_only : Bool) (P Q : Sheet) (c d : List ℕ) where
  -- the answer looks at no code
  recoded_comparison : comparison_of trace_only (recoded P c) (recoded Q d) ≡ comparison_of trace_only P Q
  unfolding comparison_of pair_count nearest nearest_trace cleared_of last_row violating step
  recoded_comparison = refl

  module _ (work trace : List ℕ) (z : compare_fault P Q work trace ≡ 0) (y : compare_fault (recoded P c) (recoded Q d) work trace ≡ 0) where
    -- neither refused, two pairs alike but for codes get one answer
    pub recoded_outcome : outcome_of trace_only (recoded P c) (recoded Q d) work trace ≡ outcome_of trace_only P Q work trace
    recoded_outcome = given_outcome (recoded P c) (recoded Q d) work trace trace_only y ∙ ap (λ (o : Outcome). Ok o) recoded_comparison ∙ sym (given_outcome P Q work trace trace_only z)

    -- they leave one trace list and one work list
    pub recoded_trace : trace_after trace_only (recoded P c) (recoded Q d) work trace ≡ trace_after trace_only P Q work trace
    unfolding trace_after pair_count nearest nearest_trace violating step
    recoded_trace = rw (eq-eqb (compare_fault P Q work trace) 0 z, eq-eqb (compare_fault (recoded P c) (recoded Q d) work trace) 0 y)

    pub recoded_work : work_after (recoded P c) (recoded Q d) work trace ≡ work_after P Q work trace
    unfolding work_after pair_count
    recoded_work = rw (eq-eqb (compare_fault P Q work trace) 0 z, eq-eqb (compare_fault (recoded P c) (recoded Q d) work trace) 0 y)
