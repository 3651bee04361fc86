-- Nothing to believe: laws. What an opening prints: the reference's own refusal, 14, or the first line and the first
-- offer, which are those of the run's record. What is offered again after a refused report is what the record offers.
-- And nothing that is printed at once has more than 128 bytes.
use Rattle.std.specs.Prelude.{◌≡◌, ◌≢◌, Bool, true, false, cond, List, ◌++◌, ℕ, ◌≤◌, ◌<◌, eqb, length}
use Rattle.std.proofs.Math.Path.{ap}
use Rattle.std.proofs.Common.{arith, length-append}
use borrow.Author.Tests.{eq-eqb, ne_eqb}
use Rattle.sheet_spec.specs.declared.Sheet.{Sheet}
use Rattle.sheet_spec.specs.Refusals.{bytes_fault, sheet_fault}
use Rattle.sheet_spec.specs.Reading.{answer, read_sheet}
use Rattle.sheet_spec.proofs.Accepted.{read_accepted}
use Rattle.text_spec.specs.Lines.{ascii, decimal, number_line, sheet_line}
use Rattle.text_spec.specs.Sets.{members, set_words}
use Rattle.text_spec.proofs.DecimalLaws.{decimal_few}
use Rattle.text_spec.proofs.LengthLaws.{number_length, events_length, set_length}
use Rattle.tests_spec.specs.declared.Run.{Run}
use Rattle.tests_spec.specs.declared.Report.{Report}
use Rattle.tests_spec.specs.declared.Answer.{Answer}
use Rattle.tests_spec.specs.declared.Answer.TheVariants.{Going, Stray, Refused, Passed, Inconclusive, Denied}
use Rattle.tests_spec.specs.declared.Stepped.{Stepped}
use Rattle.tests_spec.specs.Flags.{flag}
use Rattle.tests_spec.specs.Runs.{offer_of, open_fault, open_of, ended_run, step_of}
use Rattle.tests_spec.specs.Reports.{Taken, denies, moves, strays, refuses, passes, halts}
use Rattle.tests_spec.proofs.RunLaws.{open_0, open_14, open_going, open_refused, answer_of_lem, run_of, taken}
use Rattle.tests_spec.proofs.RunRecords.{opening_starts, denied_still}
use Rattle.tests_spec.specs.Numbers.{said}
use Rattle.live_lines_spec.specs.declared.Asked.{Asked}
use Rattle.live_lines_spec.specs.Words.{words_ok, asked_of}
use Rattle.live_lines_spec.proofs.WordLaws.{words_bad}
use Rattle.live_lines_spec.specs.Answers.{kind_words, head_line, offer_line, refused_set_line, report_words, report_refused_line, answer_lines, next_offer, test_lines, opening_lines, ended_line}

-- ---- openings

-- the opening of a reference that is refused prints its refusal alone
pub opening_reference : (asked : Asked) (n e fault : ℕ) (a : Answer) → fault ≢ 0 → opening_lines asked n e fault a ≡ number_line (ascii "reference refused ") fault
unfolding opening_lines
opening_reference asked n e fault a m = rw (ne_eqb fault 0 m)

-- the opening of a test that is asked for, on a sheet
abbrev pub open_asked : Sheet → Asked → Stepped
open_asked s asked = open_of asked.trace_only s asked.k asked.h

module _ (s : Sheet) (z : sheet_fault s ≡ 0) (asked : Asked) where
  -- the opening of an accepted reference with k above 1,023 prints the refusal 14 alone
  pub opening_14 : 1023 < asked.k → opening_lines asked s.n s.e (sheet_fault s) (open_asked s asked).answer ≡ number_line (ascii "test refused ") 14
  unfolding opening_lines test_lines
  opening_14 l =
      let d = (open_refused s asked.k asked.h asked.trace_only 14).1 ((open_14 s asked.k).1 (z, l), λ e. omega arith) in
      rw (eq-eqb (sheet_fault s) 0 z, d)

  -- the opening of an accepted reference with k up to 1,023 prints a first line with the test, the choice number and
  -- the kind of the record with which the run begins, and what this record offers
  pub opening_run : asked.k ≤ 1023
      → opening_lines asked s.n s.e (sheet_fault s) (open_asked s asked).answer
      ≡ head_line (flag (open_asked s asked).run.trace_only) (open_asked s asked).run.k (open_asked s asked).run.h s.n s.e ++ offer_line (offer_of s (open_asked s asked).run)
  unfolding opening_lines test_lines
  opening_run l =
      let f : open_fault s asked.k ≡ 0 = (open_0 s asked.k).1 (z, λ g. omega arith) in
      let p = open_going s asked.k asked.h asked.trace_only f in
      let w = opening_starts asked.trace_only s asked.k asked.h f in
      rw (w.kind, w.test, w.choice, eq-eqb (sheet_fault s) 0 z, answer_of_lem p, run_of p)

-- words that ask for no test print the refusal 14
pub opening_words : (s : Sheet) → sheet_fault s ≡ 0 → (k h : List ℕ) (there : Bool) (word : List ℕ) → words_ok k h there word ≡ false
    → opening_lines (asked_of k h there word) s.n s.e (sheet_fault s) (open_asked s (asked_of k h there word)).answer ≡ number_line (ascii "test refused ") 14
opening_words s z k h there word t = opening_14 s z (asked_of k h there word) (omega (arith, words_bad k h there word t))

-- what the opening of accepted bytes prints is that of the sheet that they spell
pub opening_read : (asked : Asked) (n e : ℕ) (b : List ℕ) (a : Answer) → bytes_fault b ≡ 0
    → opening_lines asked n e (read_sheet b).refusal a ≡ opening_lines asked n e (sheet_fault (read_sheet b).sheet) a
unfolding read_sheet answer
opening_read asked n e b a z = rw (eq-eqb (bytes_fault b) 0 z, z, read_accepted b z)

-- ---- offers

-- the set that stands offered after an opening that is not refused is what the record offers
pub offer_first : (s : Sheet) (k h : ℕ) (trace_only : Bool) (x : ℕ) → open_fault s k ≡ 0 → next_offer x (open_of trace_only s k h).answer ≡ offer_of s (open_of trace_only s k h).run
unfolding next_offer
offer_first s k h trace_only x f = let p = open_going s k h trace_only f in rw (answer_of_lem p, run_of p)

module _ (s : Sheet) (r : Run) (x : Report) where
  -- the set that stands offered follows the record: after every report it is what the record then offers
  pub offer_follows : next_offer (offer_of s r) (step_of s r x).answer ≡ offer_of s (step_of s r x).run
  unfolding next_offer ended_run offer_of
  offer_follows = go (taken s r x)
    where
      go : Taken s r x → next_offer (offer_of s r) (step_of s r x).answer ≡ offer_of s (step_of s r x).run
      go (denies n p) = rw p
      go (moves i _ z a l p) = rw p
      go (strays i _ z n p) = rw p
      go (refuses _ z f m p) = rw p
      go (passes z _ p) = rw p
      go (halts z _ p) = rw p

  -- a refused report prints its number with why, and what the record after it offers, which is what it offered before
  pub offered_again : (m : ℕ) → (step_of s r x).answer ≡ Denied m
      → (answer_lines (offer_of s r) (step_of s r x).answer ≡ report_refused_line m ++ offer_line (offer_of s (step_of s r x).run)) × (offer_of s (step_of s r x).run ≡ offer_of s r)
  unfolding answer_lines
  offered_again m e = let q = denied_still s r x m e in (rw (q, e), ap (offer_of s) q)

-- ---- lengths

offer_length : (x : ℕ) → length (offer_line x) ≤ 54
unfolding offer_line members
offer_length x =
    omega (
      arith,
      length-append (ascii "offer") (members x ++ ascii "\n"),
      length-append (members x) (ascii "\n"),
      events_length x 16 (omega arith),
    )

refused_length : (x : ℕ) → x < 65536 → length (refused_set_line x) ≤ 128
unfolding refused_set_line
refused_length x h =
    omega (
      arith,
      length-append (ascii "run failed refused ") (set_words x ++ ascii "\n"),
      length-append (set_words x) (ascii "\n"),
      set_length x (omega arith),
    )

-- a choice between two texts is no longer than the longer
pick_length : (b : Bool) (x y : List ℕ) (k : ℕ) → length x ≤ k → length y ≤ k → length (cond b x y) ≤ k
pick_length true x y k p q = p
pick_length false x y k p q = q

why_length : (m : ℕ) → length (report_words m) ≤ 40
unfolding report_words
why_length m = pick_length (eqb m 15) _ _ 40 (omega arith) (pick_length (eqb m 17) _ _ 40 (omega arith) (omega arith))

report_refused_length : (m : ℕ) → m < 256 → length (report_refused_line m) ≤ 60
unfolding report_refused_line
report_refused_length m h =
    omega (
      arith,
      length-append (ascii "report refused ") (decimal m ++ (ascii " " ++ (report_words m ++ ascii "\n"))),
      length-append (decimal m) (ascii " " ++ (report_words m ++ ascii "\n")),
      length-append (ascii " ") (report_words m ++ ascii "\n"),
      length-append (report_words m) (ascii "\n"),
      decimal_few 2 m (omega arith),
      why_length m,
    )

kind_length : (trace_only : Bool) → length (kind_words trace_only) ≤ 11
unfolding kind_words
kind_length trace_only = pick_length trace_only _ _ 11 (omega arith) (omega arith)

-- the first line with numbers of the machine: k and h below 65,536, nodes and events below 256
head_length : (trace_only : Bool) (k h n e : ℕ) → k < 65536 → h < 65536 → n < 256 → e < 256 → length (head_line trace_only k h n e) ≤ 70
unfolding head_line sheet_line
head_length trace_only k h n e kk hh nn ee =
    omega (
      arith,
      length-append (kind_words trace_only)
          ((ascii "test " ++ (decimal k ++ (ascii " choice " ++ (decimal h ++ ascii " "))))
          ++ (ascii "reference " ++ (decimal n ++ (ascii " nodes " ++ (decimal e ++ ascii " events\n"))))),
      length-append (ascii "test " ++ (decimal k ++ (ascii " choice " ++ (decimal h ++ ascii " "))))
          (ascii "reference " ++ (decimal n ++ (ascii " nodes " ++ (decimal e ++ ascii " events\n")))),
      length-append (ascii "test ") (decimal k ++ (ascii " choice " ++ (decimal h ++ ascii " "))),
      length-append (decimal k) (ascii " choice " ++ (decimal h ++ ascii " ")),
      length-append (ascii " choice ") (decimal h ++ ascii " "),
      length-append (decimal h) (ascii " "),
      length-append (ascii "reference ") (decimal n ++ (ascii " nodes " ++ (decimal e ++ ascii " events\n"))),
      length-append (decimal n) (ascii " nodes " ++ (decimal e ++ ascii " events\n")),
      length-append (ascii " nodes ") (decimal e ++ ascii " events\n"),
      length-append (decimal e) (ascii " events\n"),
      kind_length trace_only,
      decimal_few 4 k (omega arith),
      decimal_few 4 h (omega arith),
      decimal_few 2 n (omega arith),
      decimal_few 2 e (omega arith),
    )

-- 128 bytes are enough for all that an answer prints, whatever was offered before it: the numbers in an answer are
-- those of the machine, an event or a set below 65,536 and a refusal below 256
pub answer_length : (x : ℕ) (a : Answer) → (said a).value < 65536 → (said a).refusal < 256 → length (answer_lines x a) ≤ 128
unfolding answer_lines said
answer_length x (Going y) h r = omega (arith, offer_length y)
answer_length x (Stray i) h r = omega (arith, number_length (ascii "run failed stray ") 4 i (omega arith))
answer_length x (Refused y) h r = refused_length y h
answer_length x Passed h r = omega arith
answer_length x Inconclusive h r = omega arith
answer_length x (Denied m) h r = omega (arith, length-append (report_refused_line m) (offer_line x), report_refused_length m r, offer_length x)

test_length : (asked : Asked) → asked.k < 65536 → asked.h < 65536 → (n e : ℕ) → n < 256 → e < 256 → (a : Answer) → (said a).refusal < 256 → length (test_lines asked n e a) ≤ 128
unfolding test_lines said
test_length asked k h n e nn ee (Going x) r =
    omega (
      arith,
      length-append (head_line asked.trace_only asked.k asked.h n e) (offer_line x),
      head_length asked.trace_only asked.k asked.h n e k h nn ee,
      offer_length x,
    )
test_length asked k h n e nn ee (Stray i) r = omega arith
test_length asked k h n e nn ee (Refused x) r = omega arith
test_length asked k h n e nn ee Passed r = omega arith
test_length asked k h n e nn ee Inconclusive r = omega arith
test_length asked k h n e nn ee (Denied m) r = omega (arith, number_length (ascii "test refused ") 2 m (omega arith))

-- 128 bytes are enough for all that an opening prints, with numbers of the machine
pub opening_length : (asked : Asked) → asked.k < 65536 → asked.h < 65536 → (n e fault : ℕ) → n < 256 → e < 256 → fault < 256 → (a : Answer) → (said a).refusal < 256
    → length (opening_lines asked n e fault a) ≤ 128
unfolding opening_lines
opening_length asked k h n e fault nn ee f a r =
    pick_length (eqb fault 0) _ _ 128 (test_length asked k h n e nn ee a r) (omega (arith, number_length (ascii "reference refused ") 2 fault (omega arith)))

-- 128 bytes are enough for the line where the run has not ended
pub stop_length : (many : Bool) → length (ended_line many) ≤ 128
unfolding ended_line
stop_length true = omega arith
stop_length false = omega arith
