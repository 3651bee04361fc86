-- Nothing to believe: laws. Codes play no part in a verdict but by its refusals: sheets that are alike but for codes
-- get the same verdicts, test by test and all together, wherever neither pair is refused.
use Rattle.std.specs.Prelude.{◌≡◌, Bool, ◌&&◌, ◌||◌, List, Result}
use Rattle.std.proofs.Math.Path.{refl, sym, ap}
use Rattle.std.proofs.Common.{◌∙◌}
use Rattle.std.proofs.Math.Bool.{not}
use Prim.Native.Nat.{ℕ, zero, suc, ◌<◌}
use Rattle.std.proofs.Math.Dec.{ltb}
use Rattle.base.proofs.Range.{any_ext}
use Rattle.base.proofs.Table.{up_to_ext}
use Rattle.base.specs.Front.{at_front}
use Rattle.sheet_spec.specs.declared.Sheet.{Sheet}
use Rattle.sheet_spec.specs.Kept.{recoded, row, may_stop, step}
use Rattle.refinement_spec.specs.ViolatingPairs.{has_stray, violating}
use Rattle.verdicts_spec.specs.Verdicts.{fails_from, verdict_fault, verdict_of}
use Rattle.verdicts_spec.specs.declared.Verdict.{Verdict}
use Rattle.verdicts_spec.specs.Numbers.{judged}
use Rattle.verdicts_spec.specs.Suites.{test_count, verdict_number, suite_fault, suite_of, verdicts_after}
use Rattle.verdicts_spec.proofs.VerdictLaws.{verdict_given}
use Rattle.verdicts_spec.proofs.SuiteLaws.{suite_0, given_suite, given_verdicts}
use Rattle.verdicts_spec.proofs.Complete.{none_refused}

module _ (trace_only : Bool) (P Q : Sheet) (c d : List ℕ) where
  -- the test of a verdict looks at no code
  pub recoded_fails : (k n m : ℕ) → fails_from trace_only (recoded P c) (recoded Q d) k n m ≡ fails_from trace_only P Q k n m
  unfolding fails_from violating step
  recoded_fails zero n m = refl
  recoded_fails (suc k) n m =
      ap (λ (x : Bool). has_stray P.e (row P n) (row Q m) || ((not trace_only && (may_stop (row Q m) && not (may_stop (row P n)))) || x))
      (any_ext _ _ P.e (λ i l. ap (λ (x : Bool). (ltb (step P n i) P.n && ltb (step Q m i) Q.n) && x) (recoded_fails k (step P n i) (step Q m i))))

  -- neither refused, two pairs alike but for codes get one verdict
  pub recoded_verdict : (k : ℕ) → verdict_fault P Q k ≡ 0 → verdict_fault (recoded P c) (recoded Q d) k ≡ 0
      → verdict_of trace_only (recoded P c) (recoded Q d) k ≡ verdict_of trace_only P Q k
  recoded_verdict k z y =
      verdict_given (recoded P c) (recoded Q d) k trace_only y ∙ rw (recoded_fails k 0 0) (sym (verdict_given P Q k trace_only z))

  -- neither refused, two pairs alike but for codes get one answer for all tests
  pub recoded_answer : (out : List ℕ) → suite_fault P Q out ≡ 0 → suite_fault (recoded P c) (recoded Q d) out ≡ 0
      → suite_of (recoded P c) (recoded Q d) out ≡ suite_of P Q out
  unfolding test_count
  recoded_answer out z y = given_suite (recoded P c) (recoded Q d) out y ∙ sym (given_suite P Q out z)

  -- neither refused, two pairs alike but for codes leave one list of verdicts
  pub recoded_suite : (out : List ℕ) → suite_fault P Q out ≡ 0 → suite_fault (recoded P c) (recoded Q d) out ≡ 0
      → verdicts_after trace_only (recoded P c) (recoded Q d) out ≡ verdicts_after trace_only P Q out
  unfolding test_count verdict_number
  recoded_suite out z y =
      given_verdicts (recoded P c) (recoded Q d) out y trace_only
      ∙ ap (at_front out) (up_to_ext (verdict_number trace_only (recoded P c) (recoded Q d)) (verdict_number trace_only P Q) (test_count P Q) same)
      ∙ sym (given_verdicts P Q out z trace_only)
    where
      same : (k : ℕ) → k < test_count P Q → verdict_number trace_only (recoded P c) (recoded Q d) k ≡ verdict_number trace_only P Q k
      same k l =
          let a = (suite_0 P Q out).0 z in
          let b = (suite_0 (recoded P c) (recoded Q d) out).0 y in
          ap (λ (v : Result Verdict ℕ). (judged v).kind)
          (recoded_verdict k (none_refused P Q a.0.0.0 a.0.0.1 a.0.1 k l) (none_refused (recoded P c) (recoded Q d) b.0.0.0 b.0.0.1 b.0.1 k l))
