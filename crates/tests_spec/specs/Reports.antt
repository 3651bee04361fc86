-- Nothing to believe: words for laws alone. What a report can be refused for, what becomes of it, and what becomes of a
-- run's record.
use Rattle.std.specs.Prelude.{◌≡◌, ◌⊎◌, ◌≢◌, Bool, true, false, List, [], ◌∷◌, ℕ, ◌+◌, ◌≤◌, ◌<◌}
use Rattle.events.specs.Bit.{bit}
use Rattle.sheet_spec.specs.declared.Sheet.{Sheet}
use Rattle.sheet_spec.specs.Kept.{row, successor, Initial, may_stop}
use Rattle.sheet_spec.specs.Refusals.{sheet_fault}
use Rattle.tests_spec.specs.declared.Run.{Run}
use Rattle.tests_spec.specs.declared.Report.{Report}
use Rattle.tests_spec.specs.declared.Report.TheVariants.{Event, Blocked}
use Rattle.tests_spec.specs.declared.Answer.{Answer}
use Rattle.tests_spec.specs.declared.Answer.TheVariants.{Going, Stray, Refused, Passed, Inconclusive, Denied}
use Rattle.tests_spec.specs.Flags.{flag}
use Rattle.tests_spec.specs.Runs.{offer_of, answered, report_fault, moved_by, ended_run, step_of}

-- 15: an event that the sheet has not
unfoldable pub Beyond : Sheet → Report → Type 0
Beyond s (Event i) = s.e ≤ i
Beyond s Blocked = ⊥

-- 17: an event that is not offered
unfoldable pub NotOffered : Sheet → Run → Report → Type 0
NotOffered s r (Event i) = bit (offer_of s r) i ≢ 1
NotOffered s r Blocked = ⊥

-- 9: the node is not on the sheet, the depth exceeds k, or k is above 1,023
abbrev pub WrongRecord : Sheet → Run → Type 0
WrongRecord s r = (s.n ≤ r.node) ⊎ ((r.k < r.depth) ⊎ (1023 < r.k))

-- neither the sheet's own refusal nor 16: the sheet is accepted and the run has not ended
abbrev pub Shown : Sheet → Run → Type 0
Shown s r = (sheet_fault s ≡ 0) × (¬ (flag r.ended ≡ true))

-- none of the sheet's own refusal, 16 and 9: the sheet is accepted, the run has not ended, and the record fits the
-- sheet
abbrev pub Fitting : Sheet → Run → Type 0
Fitting s r = Shown s r × (¬ WrongRecord s r)

-- the record q is that of a run at its start: test k with the choice number h, trace-only, which is set with 1, or not,
-- which has not ended and is at node 0 and depth 0
pub record Started (trace_only : Bool) (k h : ℕ) (q : Run) : Type 0 where
  pub test : q.k ≡ k
  pub choice : q.h ≡ h
  pub kind : flag q.trace_only ≡ trace_only
  pub set : q.trace_only ≤ 1
  pub going : flag q.ended ≡ false
  pub node : q.node ≡ 0
  pub depth : q.depth ≡ 0

-- the record q is r moved on by event i
pub record Moved (s : Sheet) (r : Run) (i : ℕ) (q : Run) : Type 0 where
  pub depth : q.depth ≡ r.depth + 1
  pub node : q.node ≡ successor (row s r.node) i
  pub k : q.k ≡ r.k
  pub h : q.h ≡ r.h
  pub trace_only : q.trace_only ≡ r.trace_only
  pub ended : q.ended ≡ r.ended

-- the record q is r, marked with 1 as ended
pub record Marked (r q : Run) : Type 0 where
  pub ended : q.ended ≡ 1
  pub node : q.node ≡ r.node
  pub depth : q.depth ≡ r.depth
  pub k : q.k ≡ r.k
  pub h : q.h ≡ r.h
  pub trace_only : q.trace_only ≡ r.trace_only

-- a report with which a run that takes it goes on: an event inside the initials below depth k
unfoldable pub Moving : Sheet → Run → Report → Type 0
Moving s r (Event i) = Initial s.e (row s r.node) i × (r.depth < r.k)
Moving s r Blocked = ⊥

-- a report by which a run that takes it has failed as stray: an event outside the initials
unfoldable pub Straying : Sheet → Run → Report → Type 0
Straying s r (Event i) = ¬ Initial s.e (row s r.node) i
Straying s r Blocked = ⊥

-- a report by which a run that takes it has failed as refused: blocked, in a run that is not trace-only, at a node that
-- may not stop
unfoldable pub Refusing : Sheet → Run → Report → Type 0
Refusing s r (Event i) = ⊥
Refusing s r Blocked = (flag r.trace_only ≡ false) × (may_stop (row s r.node) ≡ false)

-- a report with which a run that takes it has passed: an event inside the initials at depth k; or blocked, in a
-- trace-only run at depth k, in any other where the node may stop
unfoldable pub Passing : Sheet → Run → Report → Type 0
Passing s r (Event i) = Initial s.e (row s r.node) i × (r.k ≤ r.depth)
Passing s r Blocked =
    ((flag r.trace_only ≡ true) × (r.k ≤ r.depth)) ⊎ ((flag r.trace_only ≡ false) × (may_stop (row s r.node) ≡ true))

-- a report by which a run that takes it has ended as inconclusive (02, K4): blocked, in a trace-only run, below depth k
abbrev pub Halting : Run → Report → Type 0
Halting r x = (x ≡ Blocked) × (flag r.trace_only ≡ true) × (r.depth < r.k)

-- what becomes of a report: it is refused and alters nothing, or moves the run on below depth k, or ends it
pub data Taken (s : Sheet) (r : Run) (x : Report) : Type 0 where
  denies : report_fault s r x ≢ 0 → step_of s r x ≡ answered (Denied (report_fault s r x)) r → Taken s r x
  moves : (i : ℕ) → x ≡ Event i → report_fault s r x ≡ 0 → Initial s.e (row s r.node) i → r.depth < r.k
      → step_of s r x ≡ answered (Going (offer_of s (moved_by s r i))) (moved_by s r i) → Taken s r x
  strays : (i : ℕ) → x ≡ Event i → report_fault s r x ≡ 0 → ¬ Initial s.e (row s r.node) i → step_of s r x ≡ answered (Stray i) (ended_run r) → Taken s r x
  refuses : x ≡ Blocked → report_fault s r x ≡ 0 → flag r.trace_only ≡ false → may_stop (row s r.node) ≡ false
      → step_of s r x ≡ answered (Refused (offer_of s r)) (ended_run r) → Taken s r x
  passes : report_fault s r x ≡ 0 → Passing s r x → step_of s r x ≡ answered Passed (ended_run r) → Taken s r x
  halts : report_fault s r x ≡ 0 → Halting r x → step_of s r x ≡ answered Inconclusive (ended_run r) → Taken s r x

-- 1 for an answer that is not a refusal
unfoldable pub counts : Answer → ℕ
counts (Going x) = 1
counts (Stray i) = 1
counts (Refused x) = 1
counts Passed = 1
counts Inconclusive = 1
counts (Denied m) = 0

-- how many of a sequence of reports, each shown some sheet, are not denied
unfoldable pub taken_count : Run → List (Sheet × Report) → ℕ
taken_count r [] = 0
taken_count r (l ∷ ls) = counts (step_of l.0 r l.1).answer + taken_count (step_of l.0 r l.1).run ls

-- the record after a sequence of reports
unfoldable pub run_after : Run → List (Sheet × Report) → Run
run_after r [] = r
run_after r (l ∷ ls) = run_after (step_of l.0 r l.1).run ls
