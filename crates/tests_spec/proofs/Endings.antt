-- Nothing to believe: laws. How a run ends: by which reports it has failed as stray or as refused, has passed, or is
-- inconclusive (02, K4), each exactly; and which reports of "blocked" are no failure.
use Rattle.std.specs.Prelude.{◌≡◌, refl, ◌⊎◌, ◌≢◌, ◌↔◌, true, false, ℕ, ◌≤◌, ◌<◌}
use Rattle.std.proofs.Common.{sym, ◌∙◌, inl, inr, arith}
use Rattle.base.proofs.Truth.{dec, lt_or_ge}
use Rattle.sheet_spec.specs.declared.Sheet.{Sheet}
use Rattle.sheet_spec.specs.Kept.{row, may_stop}
use Rattle.sheet_spec.specs.Refusals.{sheet_fault}
use Rattle.tests_spec.specs.declared.Run.{Run}
use Rattle.tests_spec.specs.declared.Report.{Report}
use Rattle.tests_spec.specs.declared.Report.TheVariants.{Blocked}
use Rattle.tests_spec.specs.declared.Answer.TheVariants.{Going, Stray, Refused, Passed, Inconclusive, Denied}
use Rattle.tests_spec.specs.Flags.{flag}
use Rattle.tests_spec.specs.Runs.{answered, report_fault, step_of}
use Rattle.tests_spec.specs.Numbers.{said}
use Rattle.tests_spec.proofs.Numbers.{said_once}
use Rattle.tests_spec.specs.Reports.{Straying, Refusing, Passing, Marked}
use Rattle.tests_spec.proofs.RunLaws.{kind_same}
use Rattle.tests_spec.proofs.RunRecords.{ending_marks, ending_16}
use Rattle.tests_spec.proofs.NumberLaws.{kind_2, kind_3, kind_4, kind_5, stray_parts, refusing_said, passing_said, halting_said}

module _ (s : Sheet) (r : Run) (x : Report) where
  -- a run has failed as stray exactly by an event outside the initials that is not refused
  pub strayed_means : ((i : ℕ) × ((step_of s r x).answer ≡ Stray i)) ↔ ((report_fault s r x ≡ 0) × Straying s r x)
  unfolding said
  strayed_means = (λ w. (kind_2 s r x).0 (kind_same w.1), λ w. let p = stray_parts s r x w.0 w.1 in (p.0, said_once _ (Stray p.0) p.1))

  -- a run has failed as refused exactly by "blocked", not refused, in a run that is not trace-only, where the node may
  -- not stop
  pub refused_means : ((X : ℕ) × ((step_of s r x).answer ≡ Refused X)) ↔ ((report_fault s r x ≡ 0) × Refusing s r x)
  unfolding said
  refused_means = (λ w. (kind_3 s r x).0 (kind_same w.1), λ w. (_, said_once _ (Refused _) (refusing_said s r x w.0 w.1)))

  -- a run has passed exactly by a report that is not refused and is an event inside the initials at depth k, or
  -- blocked, trace-only at depth k or not trace-only where the node may stop
  pub passed_means : ((step_of s r x).answer ≡ Passed) ↔ ((report_fault s r x ≡ 0) × Passing s r x)
  unfolding said
  passed_means = (λ e. (kind_4 s r x).0 (kind_same e), λ w. said_once _ Passed (passing_said s r x w.0 w.1))

  -- a run is inconclusive exactly by a report that is not refused and is "blocked", if the run is trace-only and its
  -- depth is below its k (`Halting`)
  pub inconclusive_means : ((step_of s r x).answer ≡ Inconclusive) ↔ ((report_fault s r x ≡ 0) × ((x ≡ Blocked) × (flag r.trace_only ≡ true) × (r.depth < r.k)))
  unfolding said
  inconclusive_means = (λ e. (kind_5 s r x).0 (kind_same e), λ w. said_once _ Inconclusive (halting_said s r x w.0 w.1))

  -- an inconclusive answer is neither a refusal nor goes on
  inconclusive_ends : (step_of s r x).answer ≡ Inconclusive → ((m : ℕ) → (step_of s r x).answer ≢ Denied m) × ((X : ℕ) → (step_of s r x).answer ≢ Going X)
  unfolding said
  inconclusive_ends e = (λ m d. omega (arith, kind_same (sym e ∙ d)), λ X d. omega (arith, kind_same (sym e ∙ d)))

  -- an inconclusive run is marked as ended; its node, its depth and all else stay
  pub inconclusive_marks : (step_of s r x).answer ≡ Inconclusive → Marked r (step_of s r x).run
  inconclusive_marks e = let w = inconclusive_ends e in ending_marks s r x w.0 w.1

  -- after it every report, shown an accepted sheet, gets 16, and the record stays
  pub inconclusive_16 : (step_of s r x).answer ≡ Inconclusive → (next : Sheet) (y : Report) → sheet_fault next ≡ 0
      → step_of next (step_of s r x).run y ≡ answered (Denied 16) (step_of s r x).run
  inconclusive_16 e = let w = inconclusive_ends e in ending_16 s r x w.0 w.1

-- "blocked" that is not refused is no failure, but passed or inconclusive, exactly if the run is trace-only or the node
-- may stop: K4 moved no failure
pub blocked_unfailed : (s : Sheet) (r : Run) → report_fault s r Blocked ≡ 0
    → (((step_of s r Blocked).answer ≡ Passed) ⊎ ((step_of s r Blocked).answer ≡ Inconclusive)) ↔ ((flag r.trace_only ≡ true) ⊎ (may_stop (row s r.node) ≡ true))
unfolding Passing
blocked_unfailed s r z = (forth, back)
  where
    passing : Passing s r Blocked → (flag r.trace_only ≡ true) ⊎ (may_stop (row s r.node) ≡ true)
    passing (inl (t, l)) = inl t
    passing (inr (t, m)) = inr m

    forth : ((step_of s r Blocked).answer ≡ Passed) ⊎ ((step_of s r Blocked).answer ≡ Inconclusive) → (flag r.trace_only ≡ true) ⊎ (may_stop (row s r.node) ≡ true)
    forth (inl e) = passing ((passed_means s r Blocked).0 e).1
    forth (inr e) = inl ((inconclusive_means s r Blocked).0 e).1.1

    traces : flag r.trace_only ≡ true → (r.depth < r.k) ⊎ (r.k ≤ r.depth) → ((step_of s r Blocked).answer ≡ Passed) ⊎ ((step_of s r Blocked).answer ≡ Inconclusive)
    traces t (inl l) = inr ((inconclusive_means s r Blocked).1 (z, (refl, t, l)))
    traces t (inr l) = inl ((passed_means s r Blocked).1 (z, inl (t, l)))

    stops : may_stop (row s r.node) ≡ true → (flag r.trace_only ≡ true) ⊎ (flag r.trace_only ≡ false)
        → ((step_of s r Blocked).answer ≡ Passed) ⊎ ((step_of s r Blocked).answer ≡ Inconclusive)
    stops m (inl t) = traces t (lt_or_ge r.depth r.k)
    stops m (inr t) = inl ((passed_means s r Blocked).1 (z, inr (t, m)))

    back : (flag r.trace_only ≡ true) ⊎ (may_stop (row s r.node) ≡ true) → ((step_of s r Blocked).answer ≡ Passed) ⊎ ((step_of s r Blocked).answer ≡ Inconclusive)
    back (inl t) = traces t (lt_or_ge r.depth r.k)
    back (inr m) = stops m (dec (flag r.trace_only))
