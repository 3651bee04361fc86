-- What a verdict means and what it is (01, "A device node can do ..."). The first part is about runs: the device fails
-- test k exactly if some run against it, for some h, can end failed. The second is a test that can be run.
use Rattle.std.specs.Prelude.{◌≡◌, ◌⊎◌, Bool, not, ◌&&◌, ◌||◌, cond, List, [], ◌∷◌, ℕ, zero, suc, ◌<◌, eqb, ltb, leb, Result, Ok, Err}
use Rattle.base.specs.Range.{any}
use Rattle.base.specs.Refusal.{unless}
use Rattle.events.specs.Bit.{bit}
use Rattle.sheet_spec.specs.declared.Sheet.{Sheet}
use Rattle.sheet_spec.specs.Kept.{row, successor, Initial, may_stop, step}
use Rattle.sheet_spec.specs.Refusals.{pair_fault}
use Rattle.refinement_spec.specs.Refinement.{MayRefuse}
use Rattle.refinement_spec.specs.ViolatingPairs.{has_stray, violating}
use Rattle.tests_spec.specs.declared.Run.{Run}
use Rattle.tests_spec.specs.declared.Report.{Report}
use Rattle.tests_spec.specs.declared.Report.TheVariants.{Event, Blocked}
use Rattle.tests_spec.specs.declared.Answer.{Answer}
use Rattle.tests_spec.specs.declared.Answer.TheVariants.{Going, Stray, Refused, Passed, Inconclusive, Denied}
use Rattle.verdicts_spec.specs.declared.Verdict.{Verdict}
use Rattle.verdicts_spec.specs.declared.Verdict.TheVariants.{Passes, Fails}
use Rattle.tests_spec.specs.Runs.{open_of, step_of}

-- the device at node m can give this report to an offer: an initial event that is offered; blocked, if one of its
-- acceptances has no offered event
unfoldable pub CanReport : Sheet → ℕ → ℕ → Report → Type 0
CanReport Q m offer (Event i) = (bit offer i ≡ 1) × Initial Q.e (row Q m) i
CanReport Q m offer Blocked = MayRefuse (row Q m) offer

-- an answer that ends a run as failed
unfoldable pub Failed : Answer → Type 0
Failed (Going x) = ⊥
Failed (Stray i) = Unit {0}
Failed (Refused x) = Unit {0}
Failed Passed = ⊥
Failed Inconclusive = ⊥
Failed (Denied k) = ⊥

-- the device's node after a report
unfoldable pub device_after : Sheet → ℕ → Report → ℕ
device_after Q m (Event i) = successor (row Q m) i
device_after Q m Blocked = m

-- the reports take the run r, with the device at node m and this offer, to an ending as failed: each is one that the
-- device can give and that the run answers by going on, but the last, which it answers by failing
unfoldable pub EndsFailed : Sheet → Sheet → Run → ℕ → ℕ → List Report → Type 0
EndsFailed P Q r m offer [] = ⊥
EndsFailed P Q r m offer (report ∷ reports) =
    CanReport Q m offer report
    × (((reports ≡ []) × Failed (step_of P r report).answer)
    ⊎ ((next : ℕ) × ((step_of P r report).answer ≡ Going next) × EndsFailed P Q (step_of P r report).run (device_after Q m report) next reports))

-- the device fails test k: for some choice number a run, opened and stepped as the bench does it, ends failed
abbrev pub FailsTest : Bool → Sheet → Sheet → ℕ → Type 0
FailsTest trace_only P Q k =
    (h : ℕ) × (h < 65536) × (offer : ℕ) × ((open_of trace_only P k h).answer ≡ Going offer)
    × ((reports : List Report) × EndsFailed P Q (open_of trace_only P k h).run 0 offer reports)

-- the test of a verdict, from the pair (n, m), with k events to go: it fails. With none to go the pair is violating;
-- before that a stray fails, and a device that may stop where the reference may not
unfoldable pub fails_from : Bool → Sheet → Sheet → ℕ → ℕ → ℕ → Bool
fails_from trace_only P Q zero n m = violating trace_only P Q n m
fails_from trace_only P Q (suc k) n m =
    has_stray P.e (row P n) (row Q m)
    || ((not trace_only && (may_stop (row Q m) && not (may_stop (row P n))))
    || any (λ i. (ltb (step P n i) P.n && ltb (step Q m i) Q.n) && fails_from trace_only P Q k (step P n i) (step Q m i)) P.e)

-- the refusal of a verdict: the reference's own, the device's own; 11: E differs; 19: a code differs; 14: k above 1,023
unfoldable pub verdict_fault : Sheet → Sheet → ℕ → ℕ
verdict_fault P Q k = pair_fault P Q (unless (leb k 1023) 14 0)

-- the verdict of reference P on device Q for test k
unfoldable pub verdict_of : Bool → Sheet → Sheet → ℕ → Result Verdict ℕ
verdict_of trace_only P Q k = cond (eqb (verdict_fault P Q k) 0) (Ok (cond (fails_from trace_only P Q k 0 0) Fails Passes)) (Err (verdict_fault P Q k))
