-- Test k as a live run (01, "Test k and a live run"): what is offered, what a report is answered, and the record after
-- it.
use Rattle.std.specs.Prelude.{Bool, not, ◌&&◌, ◌||◌, cond, List, ℕ, ◌+◌, ◌-◌, ◌%◌, ◌^◌, eqb, ltb, leb, length, get_or}
use Rattle.std.specs.Int.Bits.{bit_or}
use Rattle.base.specs.Refusal.{unless, or_else}
use Rattle.events.specs.Sets.{has}
use Rattle.sheet_spec.specs.declared.Sheet.{Sheet}
use Rattle.sheet_spec.specs.Kept.{row, successor, acceptances, initials, may_stop}
use Rattle.sheet_spec.specs.Refusals.{sheet_fault}
use Rattle.probes_spec.specs.Probes.{probes}
use Rattle.tests_spec.specs.declared.Run.{Run}
use Rattle.tests_spec.specs.declared.Report.{Report}
use Rattle.tests_spec.specs.declared.Report.TheVariants.{Event, Blocked}
use Rattle.tests_spec.specs.declared.Answer.{Answer}
use Rattle.tests_spec.specs.declared.Answer.TheVariants.{Going, Stray, Refused, Passed, Inconclusive, Denied}
use Rattle.tests_spec.specs.declared.Stepped.{Stepped}
use Rattle.tests_spec.specs.Flags.{flag, flag_of}

-- all e events, as a set
unfoldable pub all_events : ℕ → ℕ
all_events e = 2 ^ e - 1

-- the events outside the initials of node v
unfoldable pub outside : Sheet → ℕ → ℕ
outside s v = all_events s.e - initials s.e (row s v)

-- the probes of node v
unfoldable pub probes_at : Sheet → ℕ → List ℕ
probes_at s v = probes (acceptances (row s v)) s.e

-- probe number (h remainder m) of m probes, counted from 0; nothing where there is none
unfoldable pub chosen : List ℕ → ℕ → ℕ
chosen ps h = cond (eqb (length ps) 0) 0 (get_or ps (h % length ps) 0)

-- what a run offers: below depth k, and in a trace-only run, all events; at depth k the chosen probe and all events
-- outside the initials
unfoldable pub offer_of : Sheet → Run → ℕ
offer_of s r = cond (flag r.trace_only || ltb r.depth r.k) (all_events s.e) (bit_or (chosen (probes_at s r.node) r.h) (outside s r.node))

-- a run at its start
unfoldable pub new_run : Bool → ℕ → ℕ → Run
new_run trace_only k h = record { k = k; h = h; trace_only = flag_of trace_only; ended = 0; node = 0; depth = 0 }

-- a record with 0 in every place
abbrev pub zero_run : Run
zero_run = record { k = 0; h = 0; trace_only = 0; ended = 0; node = 0; depth = 0 }

-- an answer beside a record
abbrev pub answered : Answer → Run → Stepped
answered a r = record { answer = a; run = r }

-- the refusal of an opening: the sheet's own; 14: k above 1,023
unfoldable pub open_fault : Sheet → ℕ → ℕ
open_fault s k = or_else (sheet_fault s) (unless (leb k 1023) 14 0)

-- opening answers with the first offer; refused, it has the number and a record of zeros
unfoldable pub open_of : Bool → Sheet → ℕ → ℕ → Stepped
open_of trace_only s k h =
    cond (eqb (open_fault s k) 0)
    (answered (Going (offer_of s (new_run trace_only k h))) (new_run trace_only k h))
    (answered (Denied (open_fault s k)) zero_run)

-- 9: the test that the record's node is on the sheet, its depth does not exceed its k, and its k is not above 1,023
unfoldable pub record_ok : Sheet → Run → Bool
record_ok s r = ltb r.node s.n && (leb r.depth r.k && leb r.k 1023)

-- the refusal that comes from the event of a report: 15: it is not below E; 17: it is not offered; "blocked" is always
-- a report
unfoldable pub event_fault : Sheet → Run → Report → ℕ
event_fault s r (Event i) = unless (ltb i s.e) 15 (unless (has (offer_of s r) i) 17 0)
event_fault s r Blocked = 0

-- the refusal of a report: the sheet's own; 16: the run has ended; 9: the record does not fit; 15 and 17: the event
unfoldable pub report_fault : Sheet → Run → Report → ℕ
report_fault s r report = or_else (sheet_fault s) (unless (not (flag r.ended)) 16 (unless (record_ok s r) 9 (event_fault s r report)))

-- the run moved on by event i: its successor, and one more in depth
unfoldable pub moved_by : Sheet → Run → ℕ → Run
moved_by s r i = record { k = r.k; h = r.h; trace_only = r.trace_only; ended = r.ended; node = successor (row s r.node) i; depth = r.depth + 1 }

-- the record of an ended run: only marked, with 1; its node and depth stay
unfoldable pub ended_run : Run → Run
ended_run r = record { k = r.k; h = r.h; trace_only = r.trace_only; ended = 1; node = r.node; depth = r.depth }

-- the answer to a report. An event outside the initials: failed as stray; inside them below depth k the run moves on,
-- at depth k it has passed. Blocked, in a trace-only run: inconclusive below depth k, passed at depth k; in any other:
-- passed if the node may stop, else failed as refused with the set offered
unfoldable pub answer_of : Sheet → Run → Report → Stepped
answer_of s r (Event i) =
    cond (has (initials s.e (row s r.node)) i)
    (cond (ltb r.depth r.k)
    (answered (Going (offer_of s (moved_by s r i))) (moved_by s r i))
    (answered Passed (ended_run r)))
    (answered (Stray i) (ended_run r))
answer_of s r Blocked =
    cond (flag r.trace_only)
    (cond (ltb r.depth r.k) (answered Inconclusive (ended_run r)) (answered Passed (ended_run r)))
    (cond (may_stop (row s r.node)) (answered Passed (ended_run r)) (answered (Refused (offer_of s r)) (ended_run r)))

-- a report is answered, or refused with its number and the record as it came
unfoldable pub step_of : Sheet → Run → Report → Stepped
step_of s r report = cond (eqb (report_fault s r report) 0) (answer_of s r report) (answered (Denied (report_fault s r report)) r)
