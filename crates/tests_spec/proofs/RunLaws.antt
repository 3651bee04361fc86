-- Nothing to believe: laws. The rules of a live run (01, "Test k and a live run" and "Who can cause a refusal"): what
-- is refused, and what each report is answered.
use Rattle.std.specs.Prelude.{◌≡◌, refl, ◌⊎◌, ◌≢◌, ◌↔◌, Bool, true, false, not, ℕ, ◌≤◌, ◌<◌, eqb, ltb, leb}
use Rattle.std.proofs.Common.{sym, ap, ◌∙◌, inl, inr}
use native.Mathlib.Omega.{arith}
use borrow.Author.Tests.{eqb-true, eqb-false, eq-eqb, ne_eqb, lt-ltb, le-ltb}
use Rattle.base.proofs.Truth.{dec, clash, lt_or_ge, not_i}
use Rattle.base.proofs.Finds.{Finds, finds_le, finds_lt, finds_and, finds_not}
use Rattle.base.specs.Refusal.{unless}
use Rattle.base.proofs.Refusal.{unless_hit, unless_pass, unless_none, unless_other, or_else_first, or_else_then}
use Rattle.events.specs.Bit.{bit}
use Rattle.events.specs.Sets.{has}
use Rattle.events.proofs.Sets.{has→, has←}
use Rattle.sheet_spec.specs.declared.Sheet.{Sheet}
use Rattle.sheet_spec.specs.Kept.{row, initials, Initial, may_stop}
use Rattle.sheet_spec.specs.Refusals.{sheet_fault, Own, NotOwn}
use Rattle.sheet_spec.proofs.RuleLaws.{initials→, initials←}
use Rattle.sheet_spec.proofs.CheckLaws.{check_other, own_other}
use Rattle.sheet_spec.proofs.Chains.{further, finally}
use Rattle.sheet_spec.proofs.SoundLaws.{check_sound}
use Rattle.tests_spec.specs.declared.Run.{Run}
use Rattle.tests_spec.specs.declared.Report.{Report}
use Rattle.tests_spec.specs.declared.Report.TheVariants.{Event, Blocked}
use Rattle.tests_spec.specs.declared.Answer.{Answer}
use Rattle.tests_spec.specs.declared.Answer.TheVariants.{Going, Stray, Refused, Passed, Inconclusive, Denied}
use Rattle.tests_spec.specs.declared.Stepped.{Stepped}
use Rattle.tests_spec.specs.Flags.{flag}
use Rattle.tests_spec.specs.Runs.{offer_of, new_run, zero_run, answered, open_fault, open_of, record_ok, event_fault, report_fault, moved_by, ended_run, answer_of, step_of}
use Rattle.tests_spec.specs.Numbers.{said}
use Rattle.tests_spec.specs.Reports.{Beyond, NotOffered, WrongRecord, Shown, Fitting, Passing, Taken, denies, moves, strays, refuses, passes, halts}

-- the refusals and the answers of an opening
module _ (s : Sheet) (k : ℕ) where
  -- a sheet that is refused is refused with its own number
  pub open_sheet : (m : ℕ) → Own m → (open_fault s k ≡ m) ↔ (sheet_fault s ≡ m)
  unfolding open_fault
  open_sheet m o =
      or_else_first (sheet_fault s) (unless (leb k 1023) 14 0) m (λ e. omega (arith, o.0))
      (unless_other (leb k 1023) (own_other o (omega arith, λ p. omega arith)) (λ e. omega (arith, o.0)))

  -- 14: an opening with k above 1,023
  pub open_14 : (open_fault s k ≡ 14) ↔ ((sheet_fault s ≡ 0) × (1023 < k))
  unfolding open_fault
  open_14 =
      finally (or_else_then (sheet_fault s) (unless (leb k 1023) 14 0) 14 (inl (check_other s 14 (omega arith, λ p. omega arith))))
      (λ h. unless_hit 14 0 (finds_le k 1023) (λ e. omega arith))

  -- no refusal of an opening: the sheet is accepted and k is not above 1,023
  pub open_0 : (open_fault s k ≡ 0) ↔ ((sheet_fault s ≡ 0) × (¬ (1023 < k)))
  unfolding open_fault
  open_0 =
      finally (or_else_then (sheet_fault s) (unless (leb k 1023) 14 0) 0 (inr refl)) (λ h. unless_none 14 (finds_le k 1023) (λ e. omega arith))

  module _ (h : ℕ) (trace_only : Bool) where
    -- an opening that is not refused has the first offer and the record of a run at its start
    pub open_going : open_fault s k ≡ 0 → open_of trace_only s k h ≡ answered (Going (offer_of s (new_run trace_only k h))) (new_run trace_only k h)
    unfolding open_of
    open_going z = rw (eq-eqb (open_fault s k) 0 z)

    -- an opening that is refused has its number and a record of zeros
    pub open_denied : open_fault s k ≢ 0 → open_of trace_only s k h ≡ answered (Denied (open_fault s k)) zero_run
    unfolding open_of
    open_denied z = rw (ne_eqb (open_fault s k) 0 z)

    -- no run is passed, nor ended in any way, before a report: opening goes on or is refused
    pub open_answers : ((x : ℕ) × ((open_of trace_only s k h).answer ≡ Going x)) ⊎ ((m : ℕ) × (m ≢ 0) × ((open_of trace_only s k h).answer ≡ Denied m))
    open_answers = go (dec (eqb (open_fault s k) 0))
      where
        go : (eqb (open_fault s k) 0 ≡ true) ⊎ (eqb (open_fault s k) 0 ≡ false)
            → ((x : ℕ) × ((open_of trace_only s k h).answer ≡ Going x)) ⊎ ((m : ℕ) × (m ≢ 0) × ((open_of trace_only s k h).answer ≡ Denied m))
        go (inl t) = inl (offer_of s (new_run trace_only k h), ap (λ (z : Stepped). z.answer) (open_going (eqb-true _ 0 t)))
        go (inr t) = let n = eqb-false (open_fault s k) 0 t in inr (open_fault s k, n, ap (λ (z : Stepped). z.answer) (open_denied n))

-- ---- a report: its refusals

-- the tests of 9, 16 and 17 find their faults
record_finds : (s : Sheet) (r : Run) → Finds (record_ok s r) (WrongRecord s r)
unfolding record_ok
record_finds s r = finds_and (finds_lt r.node s.n) (finds_and (finds_le r.depth r.k) (finds_le r.k 1023))

ended_finds : (b : Bool) → Finds (not b) (b ≡ true)
ended_finds b = finds_not (λ t. t) (λ t x. clash x t)

has_finds : (X i : ℕ) → Finds (has X i) (bit X i ≢ 1)
has_finds X i = record { clear = λ t n. n (has→ X i t); fault = λ t e. clash (has← X i e) t }

-- the numbers that come from the event of a report: 15, 17 or none
event_15 : (s : Sheet) (r : Run) (x : Report) → (event_fault s r x ≡ 15) ↔ Beyond s x
unfolding event_fault Beyond
event_15 s r (Event i) =
    unless_hit 15 (unless (has (offer_of s r) i) 17 0) (finds_lt i s.e) (unless_other (has (offer_of s r) i) (λ e. omega arith) (λ e. omega arith))
event_15 s r Blocked = (λ e. absurd (omega arith), λ e. absurd e)

event_17 : (s : Sheet) (r : Run) (x : Report) → (event_fault s r x ≡ 17) ↔ ((¬ Beyond s x) × NotOffered s r x)
unfolding event_fault Beyond NotOffered
event_17 s r (Event i) =
    finally (unless_pass 15 (unless (has (offer_of s r) i) 17 0) 17 (finds_lt i s.e) (λ e. omega arith))
    (λ h. unless_hit 17 0 (has_finds (offer_of s r) i) (λ e. omega arith))
event_17 s r Blocked = (λ e. absurd (omega arith), λ e. absurd e.1)

event_0 : (s : Sheet) (r : Run) (x : Report) → (event_fault s r x ≡ 0) ↔ ((¬ Beyond s x) × (¬ NotOffered s r x))
unfolding event_fault Beyond NotOffered
event_0 s r (Event i) =
    finally (unless_pass 15 (unless (has (offer_of s r) i) 17 0) 0 (finds_lt i s.e) (λ e. omega arith))
    (λ h. unless_none 17 (has_finds (offer_of s r) i) (λ e. omega arith))
event_0 s r Blocked = (λ e. (λ x. x, λ x. x), λ e. refl)

event_numbers : (s : Sheet) (r : Run) (x : Report) (m : ℕ) → m ≢ 0 → m ≢ 15 → m ≢ 17 → event_fault s r x ≢ m
unfolding event_fault
event_numbers s r (Event i) m a b c = unless_other (ltb i s.e) (λ e. b (sym e)) (unless_other (has (offer_of s r) i) (λ e. c (sym e)) (λ e. a (sym e)))
event_numbers s r Blocked m a b c = λ e. a (sym e)

module _ (s : Sheet) (r : Run) (x : Report) where
  after9 : ℕ
  after9 = event_fault s r x

  after16 : ℕ
  after16 = unless (record_ok s r) 9 (event_fault s r x)

  after_sheet_lem : ℕ
  after_sheet_lem = unless (not (flag r.ended)) 16 (unless (record_ok s r) 9 (event_fault s r x))

  pass_sheet : (m : ℕ) → NotOwn m ⊎ (m ≡ 0) → (report_fault s r x ≡ m) ↔ ((sheet_fault s ≡ 0) × (after_sheet_lem ≡ m))
  unfolding report_fault after_sheet_lem
  pass_sheet m (inl l) = or_else_then (sheet_fault s) after_sheet_lem m (inl (check_other s m l))
  pass_sheet m (inr z) = or_else_then (sheet_fault s) after_sheet_lem m (inr z)

  pass_16 : (m : ℕ) → NotOwn m ⊎ (m ≡ 0) → 16 ≢ m → (report_fault s r x ≡ m) ↔ (Shown s r × (after16 ≡ m))
  unfolding after_sheet_lem after16
  pass_16 m c n = further (pass_sheet m c) (λ h. unless_pass 16 after16 m (ended_finds (flag r.ended)) n)

  pass_9 : (m : ℕ) → NotOwn m ⊎ (m ≡ 0) → 16 ≢ m → 9 ≢ m → (report_fault s r x ≡ m) ↔ (Fitting s r × (after9 ≡ m))
  unfolding after16 after9
  pass_9 m c n o = further (pass_16 m c n) (λ h. unless_pass 9 after9 m (record_finds s r) o)

  -- a sheet that is refused is refused with its own number
  pub report_sheet : (m : ℕ) → Own m → (report_fault s r x ≡ m) ↔ (sheet_fault s ≡ m)
  unfolding report_fault
  report_sheet m o =
      or_else_first (sheet_fault s) _ m (λ e. omega (arith, o.0))
      (unless_other (not (flag r.ended)) (own_other o (omega arith, λ p. omega arith))
      (unless_other (record_ok s r) (own_other o (omega arith, λ p. omega arith))
      (event_numbers s r x m (λ e. omega (arith, o.0)) (λ e. own_other o (omega arith, λ p. omega arith) (sym e)) (λ e. own_other o (omega arith, λ p. omega arith) (sym e)))))

  -- 16: a report on a run that has ended
  pub report_16 : (report_fault s r x ≡ 16) ↔ ((sheet_fault s ≡ 0) × (flag r.ended ≡ true))
  unfolding after_sheet_lem
  report_16 =
      finally (pass_sheet 16 (inl (omega arith, λ p. omega arith)))
      (λ h. unless_hit 16 _ (ended_finds (flag r.ended))
      (unless_other (record_ok s r) (λ e. omega arith) (event_numbers s r x 16 (λ e. omega arith) (λ e. omega arith) (λ e. omega arith))))

  -- 9: a report on a record that does not fit the sheet
  pub report_9 : (report_fault s r x ≡ 9) ↔ (Shown s r × WrongRecord s r)
  unfolding after16
  report_9 =
      finally (pass_16 9 (inl (omega arith, λ p. omega arith)) (λ e. omega arith))
      (λ h. unless_hit 9 _ (record_finds s r) (event_numbers s r x 9 (λ e. omega arith) (λ e. omega arith) (λ e. omega arith)))

  -- 15: a report of an event that the sheet has not
  pub report_15 : (report_fault s r x ≡ 15) ↔ (Fitting s r × Beyond s x)
  unfolding after9
  report_15 = finally (pass_9 15 (inl (omega arith, λ p. omega arith)) (λ e. omega arith) (λ e. omega arith)) (λ h. event_15 s r x)

  -- 17: a report of an event that is not offered
  pub report_17 : (report_fault s r x ≡ 17) ↔ ((Fitting s r × (¬ Beyond s x)) × NotOffered s r x)
  unfolding after9
  report_17 = further (pass_9 17 (inl (omega arith, λ p. omega arith)) (λ e. omega arith) (λ e. omega arith)) (λ h. event_17 s r x)

  -- no refusal of a report: the record fits the sheet, which is accepted, and the event is one of the sheet's and
  -- offered
  pub report_0 : (report_fault s r x ≡ 0) ↔ ((Fitting s r × (¬ Beyond s x)) × (¬ NotOffered s r x))
  unfolding after9
  report_0 = further (pass_9 0 (inr refl) (λ e. omega arith) (λ e. omega arith)) (λ h. event_0 s r x)

  -- a report that is refused is answered with its number, and the record is as it came
  pub step_denied : report_fault s r x ≢ 0 → step_of s r x ≡ answered (Denied (report_fault s r x)) r
  unfolding step_of
  step_denied n = rw (ne_eqb (report_fault s r x) 0 n)

  -- a report that is not refused is answered by the rules
  pub step_answers : report_fault s r x ≡ 0 → step_of s r x ≡ answer_of s r x
  unfolding step_of
  step_answers z = rw (eq-eqb (report_fault s r x) 0 z)

-- "blocked" is always a report: it is not refused exactly if the sheet is accepted, the run has not ended, and the
-- record fits the sheet; neither its depth nor what is offered plays a part
pub blocked_taken : (s : Sheet) (r : Run) → (report_fault s r Blocked ≡ 0) ↔ Fitting s r
unfolding Beyond NotOffered
blocked_taken s r = (λ z. ((report_0 s r Blocked).0 z).0.0, λ w. (report_0 s r Blocked).1 ((w, λ x. x), λ x. x))

-- an event is not refused exactly if so, and it is one of the sheet's and offered
pub event_taken : (s : Sheet) (r : Run) (i : ℕ) → (report_fault s r (Event i) ≡ 0) ↔ (Fitting s r × (i < s.e) × (bit (offer_of s r) i ≡ 1))
unfolding Beyond NotOffered
event_taken s r i = (
  λ z. let w = (report_0 s r (Event i)).0 z in (w.0.0, below w.0.1 (lt_or_ge i s.e), offered w.1 (dec (eqb (bit (offer_of s r) i) 1))),
  λ w. (report_0 s r (Event i)).1 ((w.0, λ g. omega (arith, w.1)), λ o. o w.2),
)
  where
    below : ¬ (s.e ≤ i) → (i < s.e) ⊎ (s.e ≤ i) → i < s.e
    below n (inl l) = l
    below n (inr l) = absurd (n l)

    offered : ¬ (bit (offer_of s r) i ≢ 1) → (eqb (bit (offer_of s r) i) 1 ≡ true) ⊎ (eqb (bit (offer_of s r) i) 1 ≡ false) → bit (offer_of s r) i ≡ 1
    offered n (inl t) = eqb-true _ 1 t
    offered n (inr t) = absurd (n (eqb-false _ 1 t))

-- where a report is not refused, the sheet is accepted and the run has not ended
pub unrefused : (s : Sheet) (r : Run) (x : Report) → report_fault s r x ≡ 0 → (sheet_fault s ≡ 0) × (¬ (flag r.ended ≡ true))
unrefused s r x z = ((report_0 s r x).0 z).0.0.0

module _ (s : Sheet) (r : Run) where
  -- an event outside the initials: ended, failed as stray, with that event
  pub stray_step : (i : ℕ) → report_fault s r (Event i) ≡ 0 → ¬ Initial s.e (row s r.node) i → step_of s r (Event i) ≡ answered (Stray i) (ended_run r)
  unfolding answer_of
  stray_step i z n = step_answers s r (Event i) z ∙ rw out
    where
      small : s.e ≤ 12
      small = (check_sound s (unrefused s r (Event i) z).0).ranges.e_high

      out : has (initials s.e (row s r.node)) i ≡ false
      out = not_i (λ t. n (initials→ s.e (row s r.node) small i (has→ _ i t)))

  -- a reported event that is an initial is found among the initials
  inner : (i : ℕ) → report_fault s r (Event i) ≡ 0 → Initial s.e (row s r.node) i → has (initials s.e (row s r.node)) i ≡ true
  inner i z a = has← _ i (initials← s.e (row s r.node) (check_sound s (unrefused s r (Event i) z).0).ranges.e_high i a)

  -- an event inside the initials below depth k: the run moves on and the depth grows by one
  pub moving_step : (i : ℕ) → report_fault s r (Event i) ≡ 0 → Initial s.e (row s r.node) i → r.depth < r.k
      → step_of s r (Event i) ≡ answered (Going (offer_of s (moved_by s r i))) (moved_by s r i)
  unfolding answer_of
  moving_step i z a l = step_answers s r (Event i) z ∙ rw (inner i z a, lt-ltb r.depth r.k l)

  -- an event inside the initials at depth k: the run has passed
  pub passing_step : (i : ℕ) → report_fault s r (Event i) ≡ 0 → Initial s.e (row s r.node) i → r.k ≤ r.depth
      → step_of s r (Event i) ≡ answered Passed (ended_run r)
  unfolding answer_of
  passing_step i z a l = step_answers s r (Event i) z ∙ rw (inner i z a, le-ltb r.depth r.k l)

  -- blocked in a trace-only run below depth k: ended, inconclusive, whether or not the node may stop
  pub blocked_halts : report_fault s r Blocked ≡ 0 → flag r.trace_only ≡ true → r.depth < r.k → step_of s r Blocked ≡ answered Inconclusive (ended_run r)
  unfolding answer_of
  blocked_halts z t l = step_answers s r Blocked z ∙ rw (t, lt-ltb r.depth r.k l)

  -- blocked in a trace-only run at depth k: the run has passed
  pub blocked_at_k : report_fault s r Blocked ≡ 0 → flag r.trace_only ≡ true → r.k ≤ r.depth → step_of s r Blocked ≡ answered Passed (ended_run r)
  unfolding answer_of
  blocked_at_k z t l = step_answers s r Blocked z ∙ rw (t, le-ltb r.depth r.k l)

  -- blocked in a run that is not trace-only where the node may stop: the run has passed
  pub blocked_stops : report_fault s r Blocked ≡ 0 → flag r.trace_only ≡ false → may_stop (row s r.node) ≡ true → step_of s r Blocked ≡ answered Passed (ended_run r)
  unfolding answer_of
  blocked_stops z t m = step_answers s r Blocked z ∙ rw (t, m)

  -- blocked in a run that is not trace-only where the node may not stop: ended, failed as refused, with the set offered
  pub blocked_refused : report_fault s r Blocked ≡ 0 → flag r.trace_only ≡ false → may_stop (row s r.node) ≡ false
      → step_of s r Blocked ≡ answered (Refused (offer_of s r)) (ended_run r)
  unfolding answer_of
  blocked_refused z t m = step_answers s r Blocked z ∙ rw (t, m)

-- every report is refused, moves the run on, or ends it
pub taken : (s : Sheet) (r : Run) (x : Report) → Taken s r x
unfolding Passing
taken s r x = go (dec (eqb (report_fault s r x) 0))
  where
    given : (x : Report) → report_fault s r x ≡ 0 → Taken s r x
    given (Event i) z = pick (dec (has (initials s.e (row s r.node)) i)) (lt_or_ge r.depth r.k)
      where
        small : s.e ≤ 12
        small = (check_sound s (unrefused s r (Event i) z).0).ranges.e_high

        initial : has (initials s.e (row s r.node)) i ≡ true → Initial s.e (row s r.node) i
        initial t = initials→ s.e (row s r.node) small i (has→ _ i t)

        pick : (has (initials s.e (row s r.node)) i ≡ true) ⊎ (has (initials s.e (row s r.node)) i ≡ false) → (r.depth < r.k) ⊎ (r.k ≤ r.depth)
            → Taken s r (Event i)
        pick (inl t) (inl l) = moves i refl z (initial t) l (moving_step s r i z (initial t) l)
        pick (inl t) (inr l) = passes z (initial t, l) (passing_step s r i z (initial t) l)
        pick (inr t) d =
            let n : ¬ Initial s.e (row s r.node) i = λ a. clash (inner s r i z a) t in
            strays i refl z n (stray_step s r i z n)
    given Blocked z = pick (dec (flag r.trace_only)) (lt_or_ge r.depth r.k) (dec (may_stop (row s r.node)))
      where
        pick : (flag r.trace_only ≡ true) ⊎ (flag r.trace_only ≡ false) → (r.depth < r.k) ⊎ (r.k ≤ r.depth)
            → (may_stop (row s r.node) ≡ true) ⊎ (may_stop (row s r.node) ≡ false) → Taken s r Blocked
        pick (inl t) (inl l) m = halts z (refl, t, l) (blocked_halts s r z t l)
        pick (inl t) (inr l) m = passes z (inl (t, l)) (blocked_at_k s r z t l)
        pick (inr t) l (inl m) = passes z (inr (t, m)) (blocked_stops s r z t m)
        pick (inr t) l (inr m) = refuses refl z t m (blocked_refused s r z t m)

    go : (eqb (report_fault s r x) 0 ≡ true) ⊎ (eqb (report_fault s r x) 0 ≡ false) → Taken s r x
    go (inl t) = given x (eqb-true _ 0 t)
    go (inr t) = let n = eqb-false (report_fault s r x) 0 t in denies n (step_denied s r x n)

-- the answer, read off an equation of a step
pub answer_of_lem : {z : Stepped} {a : Answer} {r : Run} → z ≡ answered a r → z.answer ≡ a
answer_of_lem e = ap (λ (z : Stepped). z.answer) e

-- the record, read off an equation of a step
pub run_of : {z : Stepped} {a : Answer} {r : Run} → z ≡ answered a r → z.run ≡ r
run_of e = ap (λ (z : Stepped). z.run) e

-- the same answer has the same kind
pub kind_same : {a b : Answer} → a ≡ b → (said a).kind ≡ (said b).kind
kind_same e = ap (λ (z : Answer). (said z).kind) e

-- the same answer has the same value
pub value_same : {a b : Answer} → a ≡ b → (said a).value ≡ (said b).value
value_same e = ap (λ (z : Answer). (said z).value) e

-- an opening is answered with a refusal exactly if it has that number
pub open_refused : (s : Sheet) (k h : ℕ) (trace_only : Bool) (m : ℕ) → ((open_of trace_only s k h).answer ≡ Denied m) ↔ ((open_fault s k ≡ m) × (m ≢ 0))
unfolding said
open_refused s k h trace_only m = (λ e. forth e (dec (eqb (open_fault s k) 0)), back)
  where
    forth : (open_of trace_only s k h).answer ≡ Denied m → (eqb (open_fault s k) 0 ≡ true) ⊎ (eqb (open_fault s k) 0 ≡ false) → (open_fault s k ≡ m) × (m ≢ 0)
    forth e (inl t) = absurd (omega (arith, kind_same (sym (answer_of_lem (open_going s k h trace_only (eqb-true _ 0 t))) ∙ e)))
    forth e (inr t) =
        let n = eqb-false (open_fault s k) 0 t in
        let q : open_fault s k ≡ m = ap (λ (z : Answer). (said z).refusal) (sym (answer_of_lem (open_denied s k h trace_only n)) ∙ e) in
        (q, λ z. n (q ∙ z))

    back : (open_fault s k ≡ m) × (m ≢ 0) → (open_of trace_only s k h).answer ≡ Denied m
    back (e, n) = answer_of_lem (open_denied s k h trace_only (λ z. n (sym e ∙ z))) ∙ ap Denied e
