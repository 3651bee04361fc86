-- Nothing to believe: laws. What the record of a run is after its opening, and what a report does to it: refused it
-- stays, going on it moves, an ending marks it; and that a run ends within k + 1 accepted reports.
use Rattle.std.specs.Prelude.{◌≡◌, ◌⊎◌, ◌≢◌, ◌↔◌, Bool, true, false, List, [], ◌∷◌, ℕ, ◌+◌, ◌-◌, ◌≤◌, ◌<◌, eqb}
use Rattle.std.proofs.Math.Path.{refl, sym, ap}
use Rattle.std.proofs.Common.{◌∙◌, inl, inr, arith, eqb-true}
use Rattle.std.proofs.lemmas.Bool.{eqb-false}
use Rattle.base.proofs.Truth.{dec, clash}
use Rattle.base.proofs.Refusal.{or_else_some}
use Rattle.sheet_spec.specs.declared.Sheet.{Sheet}
use Rattle.sheet_spec.specs.Refusals.{sheet_fault}
use Rattle.tests_spec.specs.declared.Run.{Run}
use Rattle.tests_spec.specs.declared.Report.{Report}
use Rattle.tests_spec.specs.declared.Report.TheVariants.{Event}
use Rattle.tests_spec.specs.declared.Answer.{Answer}
use Rattle.tests_spec.specs.declared.Answer.TheVariants.{Going, Stray, Refused, Passed, Inconclusive, Denied}
use Rattle.tests_spec.specs.Flags.{flag}
use Rattle.tests_spec.proofs.Flags.{flag_clear, flag_set, flag_of_lem, flag_small}
use Rattle.tests_spec.specs.Runs.{answered, offer_of, new_run, open_fault, open_of, report_fault, moved_by, ended_run, step_of}
use Rattle.tests_spec.specs.declared.Stepped.{Stepped}
use Rattle.tests_spec.specs.Numbers.{said}
use Rattle.tests_spec.proofs.RunLaws.{open_going, answer_of_lem, kind_same, report_16, run_of, step_denied, taken, unrefused, value_same}
use Rattle.tests_spec.specs.Reports.{Taken, denies, moves, strays, refuses, passes, halts, Started, Moved, Marked, counts, taken_count, run_after}

-- an opening that is not refused has the record of a run at its start
pub opening_starts : (trace_only : Bool) (s : Sheet) (k h : ℕ) → open_fault s k ≡ 0 → Started trace_only k h (open_of trace_only s k h).run
unfolding new_run
opening_starts trace_only s k h z =
    rw (ap (λ (x : Stepped). x.run) (open_going s k h trace_only z))
    (record { test = refl; choice = refl; kind = flag_of_lem trace_only; set = flag_small trace_only; going = flag_clear; node = refl; depth = refl })

module _ (s : Sheet) (r : Run) (x : Report) where
  -- a refusal is answered exactly with the number of the report's refusal
  pub step_refused : (m : ℕ) → ((step_of s r x).answer ≡ Denied m) ↔ ((report_fault s r x ≡ m) × (m ≢ 0))
  unfolding said
  step_refused m = (λ e. forth e (taken s r x), back)
    where
      forth : (step_of s r x).answer ≡ Denied m → Taken s r x → (report_fault s r x ≡ m) × (m ≢ 0)
      forth e (denies n p) = let q : report_fault s r x ≡ m = ap (λ (z : Answer). (said z).refusal) (sym (answer_of_lem p) ∙ e) in (q, λ z. n (q ∙ z))
      forth e (moves i _ z a l p) = absurd (omega (arith, kind_same (sym (answer_of_lem p) ∙ e)))
      forth e (strays i _ z n p) = absurd (omega (arith, kind_same (sym (answer_of_lem p) ∙ e)))
      forth e (refuses _ z t m p) = absurd (omega (arith, kind_same (sym (answer_of_lem p) ∙ e)))
      forth e (passes z _ p) = absurd (omega (arith, kind_same (sym (answer_of_lem p) ∙ e)))
      forth e (halts z _ p) = absurd (omega (arith, kind_same (sym (answer_of_lem p) ∙ e)))

      back : (report_fault s r x ≡ m) × (m ≢ 0) → (step_of s r x).answer ≡ Denied m
      back (e, n) = answer_of_lem (step_denied s r x (λ z. n (sym e ∙ z))) ∙ ap Denied e

  -- a refused report leaves the record as it came
  pub denied_still : (m : ℕ) → (step_of s r x).answer ≡ Denied m → (step_of s r x).run ≡ r
  denied_still m e = let w = (step_refused m).0 e in run_of (step_denied s r x (λ z. w.1 (sym w.0 ∙ z)))

  -- an ended run, shown an accepted sheet, answers 16 and its record stays
  pub ended_16 : sheet_fault s ≡ 0 → flag r.ended ≡ true → step_of s r x ≡ answered (Denied 16) r
  ended_16 z t =
      let q : report_fault s r x ≡ 16 = (report_16 s r x).1 (z, t) in
      step_denied s r x (λ e. omega (arith, q)) ∙ rw q

  -- shown any other sheet, every run answers that sheet's number and its record stays
  pub sheet_refused : sheet_fault s ≢ 0 → step_of s r x ≡ answered (Denied (sheet_fault s)) r
  sheet_refused n = step_denied s r x (λ e. n (sym q ∙ e)) ∙ rw q
    where
      q : report_fault s r x ≡ sheet_fault s
      q = unfold report_fault in or_else_some (sheet_fault s) _ (omega (arith, n))

  -- an ended run's record never changes
  pub ended_still : flag r.ended ≡ true → (step_of s r x).run ≡ r
  ended_still t = go (dec (eqb (sheet_fault s) 0))
    where
      go : (eqb (sheet_fault s) 0 ≡ true) ⊎ (eqb (sheet_fault s) 0 ≡ false) → (step_of s r x).run ≡ r
      go (inl z) = run_of (ended_16 (eqb-true _ 0 z) t)
      go (inr z) = run_of (sheet_refused (eqb-false (sheet_fault s) 0 z))

  -- a trace-only run never answers "refused"
  pub trace_only_unrefused : flag r.trace_only ≡ true → (X : ℕ) → (step_of s r x).answer ≢ Refused X
  unfolding said
  trace_only_unrefused t X e = go (taken s r x)
    where
      go : Taken s r x → ⊥
      go (denies n p) = omega (arith, kind_same (sym (answer_of_lem p) ∙ e))
      go (moves i _ z a l p) = omega (arith, kind_same (sym (answer_of_lem p) ∙ e))
      go (strays i _ z n p) = omega (arith, kind_same (sym (answer_of_lem p) ∙ e))
      go (refuses _ z f m p) = clash t f
      go (passes z _ p) = omega (arith, kind_same (sym (answer_of_lem p) ∙ e))
      go (halts z _ p) = omega (arith, kind_same (sym (answer_of_lem p) ∙ e))

  -- a report with which the run goes on is an event; the run, at most k deep, is one deeper and at the event's
  -- successor, and nothing else of it alters; the answer has its next offer
  pub going_deeper : (X : ℕ) → (step_of s r x).answer ≡ Going X
      → (i : ℕ) × (x ≡ Event i) × (r.depth < r.k) × Moved s r i (step_of s r x).run × (X ≡ offer_of s (step_of s r x).run)
  unfolding said moved_by
  going_deeper X e = go (taken s r x)
    where
      go : Taken s r x → (i : ℕ) × (x ≡ Event i) × (r.depth < r.k) × Moved s r i (step_of s r x).run × (X ≡ offer_of s (step_of s r x).run)
      go (denies n p) = absurd (omega (arith, kind_same (sym (answer_of_lem p) ∙ e)))
      go (moves i q z a l p) = (
        i,
        q,
        l,
        rw (run_of p) (record { depth = refl; node = refl; k = refl; h = refl; trace_only = refl; ended = refl }),
        sym (value_same (sym (answer_of_lem p) ∙ e)) ∙ ap (offer_of s) (sym (run_of p)),
      )
      go (strays i _ z n p) = absurd (omega (arith, kind_same (sym (answer_of_lem p) ∙ e)))
      go (refuses _ z f m p) = absurd (omega (arith, kind_same (sym (answer_of_lem p) ∙ e)))
      go (passes z _ p) = absurd (omega (arith, kind_same (sym (answer_of_lem p) ∙ e)))
      go (halts z _ p) = absurd (omega (arith, kind_same (sym (answer_of_lem p) ∙ e)))

  -- an answer that neither refuses nor goes on ends the run: the record is marked, and nothing else of it alters
  pub ending_marks : ((m : ℕ) → (step_of s r x).answer ≢ Denied m) → ((X : ℕ) → (step_of s r x).answer ≢ Going X) → Marked r (step_of s r x).run
  unfolding ended_run
  ending_marks a b = go (taken s r x)
    where
      marked : {a : Answer} → step_of s r x ≡ answered a (ended_run r) → Marked r (step_of s r x).run
      marked p = rw (run_of p) (record { ended = refl; node = refl; depth = refl; k = refl; h = refl; trace_only = refl })

      go : Taken s r x → Marked r (step_of s r x).run
      go (denies n p) = absurd (a (report_fault s r x) (answer_of_lem p))
      go (moves i _ z u l p) = absurd (b (offer_of s (moved_by s r i)) (answer_of_lem p))
      go (strays i _ z n p) = marked p
      go (refuses _ z f m p) = marked p
      go (passes z _ p) = marked p
      go (halts z _ p) = marked p

-- after an ending every report, shown an accepted sheet, gets 16, and the record stays
pub ending_16 : (s : Sheet) (r : Run) (x : Report) → ((m : ℕ) → (step_of s r x).answer ≢ Denied m) → ((X : ℕ) → (step_of s r x).answer ≢ Going X)
    → (next : Sheet) (y : Report) → sheet_fault next ≡ 0 → step_of next (step_of s r x).run y ≡ answered (Denied 16) (step_of s r x).run
ending_16 s r x a b next y z = ended_16 next (step_of s r x).run y z (flag_set _ (λ e. omega (arith, e, (ending_marks s r x a b).ended)))

-- a marked record reads as ended
pub ended_marked : (r : Run) → flag (ended_run r).ended ≡ true
unfolding ended_run
ended_marked r = flag_set 1 (λ e. omega arith)

-- an answer counts as an accepted report exactly if it is no refusal
pub counts_means : (a : Answer) → (counts a ≡ 1) ↔ ((m : ℕ) → a ≢ Denied m)
unfolding counts said
counts_means (Going x) = (λ c m e. omega (arith, kind_same e), λ n. refl)
counts_means (Stray i) = (λ c m e. omega (arith, kind_same e), λ n. refl)
counts_means (Refused x) = (λ c m e. omega (arith, kind_same e), λ n. refl)
counts_means Passed = (λ c m e. omega (arith, kind_same e), λ n. refl)
counts_means Inconclusive = (λ c m e. omega (arith, kind_same e), λ n. refl)
counts_means (Denied k) = (λ c. absurd (omega (arith, c)), λ n. absurd (n k refl))

-- whatever an ended run is shown, its record stays
pub ended_stays : (ls : List (Sheet × Report)) (r : Run) → flag r.ended ≡ true → run_after r ls ≡ r
unfolding run_after
ended_stays [] r t = refl
ended_stays (l ∷ ls) r t = rw (ended_still l.0 r l.1 t) (ended_stays ls r t)

-- whatever an ended run is shown, it accepts nothing
pub ended_none : (ls : List (Sheet × Report)) (r : Run) → flag r.ended ≡ true → taken_count r ls ≡ 0
unfolding taken_count counts
ended_none [] r t = refl
ended_none (l ∷ ls) r t = go (taken l.0 r l.1) (ended_none ls r t)
  where
    live : report_fault l.0 r l.1 ≢ 0
    live z = (unrefused l.0 r l.1 z).1 t

    go : Taken l.0 r l.1 → taken_count r ls ≡ 0 → counts (step_of l.0 r l.1).answer + taken_count (step_of l.0 r l.1).run ls ≡ 0
    go (denies n p) ih = rw p (omega arith)
    go (moves i _ z a h p) ih = absurd (live z)
    go (strays i _ z n p) ih = absurd (live z)
    go (refuses _ z f m p) ih = absurd (live z)
    go (passes z _ p) ih = absurd (live z)
    go (halts z _ p) ih = absurd (live z)

-- over any sequence of sheets and reports a record with depth at most k has at most k + 1 - depth reports that are not
-- denied
pub taken_bound : (ls : List (Sheet × Report)) (r : Run) → r.depth ≤ r.k → taken_count r ls ≤ r.k + 1 - r.depth
unfolding taken_count counts moved_by ended_run
taken_bound [] r d = omega arith
taken_bound (l ∷ ls) r d = go (taken l.0 r l.1) (taken_bound ls)
  where
    last : taken_count (ended_run r) ls ≡ 0
    last = ended_none ls (ended_run r) (ended_marked r)

    go : Taken l.0 r l.1 → ((r : Run) → r.depth ≤ r.k → taken_count r ls ≤ r.k + 1 - r.depth)
        → counts (step_of l.0 r l.1).answer + taken_count (step_of l.0 r l.1).run ls ≤ r.k + 1 - r.depth
    go (denies n p) ih = rw p (omega (arith, ih r d))
    go (moves i _ z a h p) ih = rw p (omega (arith, ih (moved_by l.0 r i) (omega arith)))
    go (strays i _ z n p) ih = rw p (omega (arith, last))
    go (refuses _ z f m p) ih = rw p (omega (arith, last))
    go (passes z _ p) ih = rw p (omega (arith, last))
    go (halts z _ p) ih = rw p (omega (arith, last))

-- with k + 1 - depth reports that are not denied the run has ended: it ends within k + 1 accepted reports
pub taken_ends : (ls : List (Sheet × Report)) (r : Run) → r.depth ≤ r.k → taken_count r ls ≡ r.k + 1 - r.depth → flag (run_after r ls).ended ≡ true
unfolding taken_count counts moved_by ended_run run_after
taken_ends [] r d e = absurd (omega arith)
taken_ends (l ∷ ls) r d e = go (taken l.0 r l.1) (taken_ends ls)
  where
    last : flag (run_after (ended_run r) ls).ended ≡ true
    last = rw (ended_stays ls (ended_run r) (ended_marked r)) (ended_marked r)

    go : Taken l.0 r l.1 → ((r : Run) → r.depth ≤ r.k → taken_count r ls ≡ r.k + 1 - r.depth → flag (run_after r ls).ended ≡ true)
        → flag (run_after (step_of l.0 r l.1).run ls).ended ≡ true
    go (denies n p) ih = rw p (ih r d (omega (arith, rw p at e)))
    go (moves i _ z a h p) ih = rw p (ih (moved_by l.0 r i) (omega arith) (omega (arith, rw p at e)))
    go (strays i _ z n p) ih = rw p last
    go (refuses _ z f m p) ih = rw p last
    go (passes z _ p) ih = rw p last
    go (halts z _ p) ih = rw p last
