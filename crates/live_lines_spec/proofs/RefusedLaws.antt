-- Nothing to believe: laws. Why a report is refused in a run of `live`: the record with which the run begins fits the
-- sheet, and so does every record after it until the run ends; on such a record a report is refused only for naming no
-- event of the sheet, or one that was not offered, and the line says which.
use Rattle.std.specs.Prelude.{◌≡◌, ◌⊎◌, ◌≢◌, Bool, true, false, ◌++◌, ℕ, ◌≤◌, ◌<◌, eqb}
use Rattle.std.proofs.Common.{sym, ap, ◌∙◌, inl, inr, arith, eqb-true}
use Rattle.std.proofs.lemmas.Bool.{eqb-false}
use Rattle.base.proofs.Truth.{dec, clash, lt_or_ge}
use Rattle.events.specs.Bit.{bit}
use Rattle.sheet_spec.specs.declared.Sheet.{Sheet}
use Rattle.sheet_spec.specs.Kept.{row, successor}
use Rattle.sheet_spec.proofs.SoundLaws.{check_sound}
use Rattle.text_spec.specs.Lines.{ascii, decimal, decimal_in}
use Rattle.tests_spec.specs.declared.Run.{Run}
use Rattle.tests_spec.specs.declared.Report.{Report}
use Rattle.tests_spec.specs.declared.Report.TheVariants.{Event, Blocked}
use Rattle.tests_spec.specs.declared.Answer.TheVariants.{Denied}
use Rattle.tests_spec.specs.Runs.{offer_of, open_fault, open_of, report_fault, moved_by, step_of}
use Rattle.tests_spec.specs.Reports.{Beyond, NotOffered, WrongRecord, Fitting, Started, Taken, denies, moves, strays, refuses, passes, halts}
use Rattle.tests_spec.proofs.RunLaws.{open_0, blocked_taken, event_taken, report_15, report_17, answer_of_lem, run_of, taken}
use Rattle.tests_spec.proofs.RunRecords.{opening_starts, step_refused}
use Rattle.live_lines_spec.specs.Answers.{offer_line, report_words, report_refused_line, answer_lines}
use Rattle.live_lines_spec.proofs.EndingLaws.{Ends}

-- the record with which a run begins fits the sheet
pub first_fits : (trace_only : Bool) (s : Sheet) (k h : ℕ) → open_fault s k ≡ 0 → Fitting s (open_of trace_only s k h).run
first_fits trace_only s k h f = ((((open_0 s k).0 f).0, λ t. clash t w.going), wrong)
  where
    w : Started trace_only k h (open_of trace_only s k h).run
    w = opening_starts trace_only s k h f

    wrong : ¬ WrongRecord s (open_of trace_only s k h).run
    wrong (inl l) = omega (arith, l, w.node, (check_sound s ((open_0 s k).0 f).0).ranges.n_low)
    wrong (inr (inl l)) = omega (arith, l, w.depth)
    wrong (inr (inr l)) = ((open_0 s k).0 f).1 (omega (arith, l, w.test))

module _ (s : Sheet) (r : Run) (x : Report) (fit : Fitting s r) where
  on_sheet : r.node < s.n
  on_sheet = go (lt_or_ge r.node s.n)
    where
      go : (r.node < s.n) ⊎ (s.n ≤ r.node) → r.node < s.n
      go (inl l) = l
      go (inr l) = absurd (fit.1 (inl l))

  -- a record that fits the sheet does so after every report that does not end the run
  pub next_fits : ¬ Ends (step_of s r x).answer → Fitting s (step_of s r x).run
  unfolding moved_by
  next_fits n = go (taken s r x)
    where
      node : (i : ℕ) → i < s.e → successor (row s r.node) i ≢ 255 → successor (row s r.node) i < s.n
      node i l d = pick ((check_sound s fit.0.0).successors r.node i on_sheet l)
        where
          pick : (successor (row s r.node) i ≡ 255) ⊎ (successor (row s r.node) i < s.n) → successor (row s r.node) i < s.n
          pick (inl e) = absurd (d e)
          pick (inr e) = e

      moved : (i : ℕ) → successor (row s r.node) i < s.n → r.depth < r.k → ¬ WrongRecord s (moved_by s r i)
      moved i a l (inl g) = omega arith
      moved i a l (inr (inl g)) = omega arith
      moved i a l (inr (inr g)) = fit.1 (inr (inr g))

      go : Taken s r x → Fitting s (step_of s r x).run
      go (denies m p) = rw (run_of p) fit
      go (moves i q z a l p) = rw (run_of p) (fit.0, moved i (node i a.0 a.1) l)
      go (strays i q z m p) = absurd (n (inl (i, answer_of_lem p)))
      go (refuses q z t m p) = absurd (n (inr (inl (offer_of s r, answer_of_lem p))))
      go (passes z q p) = absurd (n (inr (inr (inl (answer_of_lem p)))))
      go (halts z q p) = absurd (n (inr (inr (inr (answer_of_lem p)))))

  -- on a record that fits the sheet a refused report names no event of the sheet, or one that was not offered, and what
  -- is printed says which, before the offer that stood
  pub says_why : (m : ℕ) → (step_of s r x).answer ≡ Denied m → (y : ℕ)
      → (Beyond s x × (answer_lines y (step_of s r x).answer ≡ ascii "report refused 15 no event of the sheet, or no report\n" ++ offer_line y))
      ⊎ (NotOffered s r x × (answer_lines y (step_of s r x).answer ≡ ascii "report refused 17 the event was not offered\n" ++ offer_line y))
  unfolding answer_lines report_refused_line report_words decimal decimal_in Beyond NotOffered
  says_why m e y = given x e
    where
      given : (x : Report) → (step_of s r x).answer ≡ Denied m
          → (Beyond s x × (answer_lines y (step_of s r x).answer ≡ ascii "report refused 15 no event of the sheet, or no report\n" ++ offer_line y))
          ⊎ (NotOffered s r x × (answer_lines y (step_of s r x).answer ≡ ascii "report refused 17 the event was not offered\n" ++ offer_line y))
      given (Event i) e = pick (lt_or_ge i s.e) (dec (eqb (bit (offer_of s r) i) 1))
        where
          w : (report_fault s r (Event i) ≡ m) × (m ≢ 0)
          w = (step_refused s r (Event i) m).0 e

          pick : (i < s.e) ⊎ (s.e ≤ i) → (eqb (bit (offer_of s r) i) 1 ≡ true) ⊎ (eqb (bit (offer_of s r) i) 1 ≡ false)
              → (Beyond s (Event i) × (answer_lines y (step_of s r (Event i)).answer ≡ ascii "report refused 15 no event of the sheet, or no report\n" ++ offer_line y))
              ⊎ (NotOffered s r (Event i) × (answer_lines y (step_of s r (Event i)).answer ≡ ascii "report refused 17 the event was not offered\n" ++ offer_line y))
          pick (inr l) d =
              let q : m ≡ 15 = sym w.0 ∙ (report_15 s r (Event i)).1 (fit, l) in
              inl (l, rw (e ∙ ap Denied q))
          pick (inl l) (inr d) =
              let o : bit (offer_of s r) i ≢ 1 = eqb-false (bit (offer_of s r) i) 1 d in
              let q : m ≡ 17 = sym w.0 ∙ (report_17 s r (Event i)).1 ((fit, λ g. omega arith), o) in
              inr (o, rw (e ∙ ap Denied q))
          pick (inl l) (inl d) = absurd (w.1 (sym w.0 ∙ (event_taken s r i).1 (fit, l, eqb-true (bit (offer_of s r) i) 1 d)))
      given Blocked e =
          let w = (step_refused s r Blocked m).0 e in
          absurd (w.1 (sym w.0 ∙ (blocked_taken s r).1 fit))
