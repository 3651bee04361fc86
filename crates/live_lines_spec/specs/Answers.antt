-- The lines that `live` prints, as the codes of their characters, each of which ends with one newline; and what follows
-- the answer to a report: the set that stands offered, and whether the run goes on.
use Rattle.std.specs.Prelude.{Bool, true, false, cond, List, [], ◌++◌, ℕ, eqb}
use Rattle.text_spec.specs.Lines.{ascii, decimal, number_line, numbers_text, sheet_line}
use Rattle.text_spec.specs.Sets.{members, set_words}
use Rattle.tests_spec.specs.declared.Answer.{Answer}
use Rattle.tests_spec.specs.declared.Answer.TheVariants.{Going, Stray, Refused, Passed, Inconclusive, Denied}
use Rattle.live_lines_spec.specs.declared.Asked.{Asked}

-- ---- lines

-- what the first line says before `test`: a trace-only run is named so, any other run has no word there
unfoldable pub kind_words : Bool → List ℕ
kind_words trace_only = cond trace_only (ascii "trace-only ") []

-- the first line of a run, `test k choice h reference n nodes e events`: which test is run, on a sheet of which size
unfoldable pub head_line : Bool → ℕ → ℕ → ℕ → ℕ → List ℕ
head_line trace_only k h n e = kind_words trace_only ++ (numbers_text (ascii "test ") k (ascii " choice ") h (ascii " ") ++ sheet_line (ascii "reference ") n e)

-- the line of an offer, `offer e e e`: the events of the set offered; an empty set is `offer` alone
unfoldable pub offer_line : ℕ → List ℕ
offer_line x = ascii "offer" ++ (members x ++ ascii "\n")

-- the line of a run that failed as refused, `run failed refused x ( e e )`: the set offered, as a number and its events
unfoldable pub refused_set_line : ℕ → List ℕ
refused_set_line x = ascii "run failed refused " ++ (set_words x ++ ascii "\n")

-- why a report is refused, in few words; in a run of this program no other number than 15 and 17 is given
unfoldable pub report_words : ℕ → List ℕ
report_words m =
    cond (eqb m 15) (ascii "no event of the sheet, or no report")
    (cond (eqb m 17) (ascii "the event was not offered") (ascii "the run takes no report"))

-- the line of a refused report: `report refused m` and why
unfoldable pub report_refused_line : ℕ → List ℕ
report_refused_line m = ascii "report refused " ++ (decimal m ++ (ascii " " ++ (report_words m ++ ascii "\n")))

-- ---- what is printed

-- what the answer to a report prints, where x is the set that stood offered: the next offer, or how the run ended, or
-- why the report is refused and the offer again, which still stands
unfoldable pub answer_lines : ℕ → Answer → List ℕ
answer_lines x (Going y) = offer_line y
answer_lines x (Stray i) = number_line (ascii "run failed stray ") i
answer_lines x (Refused y) = refused_set_line y
answer_lines x Passed = ascii "run passed\n"
answer_lines x Inconclusive = ascii "run inconclusive\n"
answer_lines x (Denied m) = report_refused_line m ++ offer_line x

-- what the opening of a test prints on a reference of n nodes and e events: the first line and the first offer, or the
-- refusal; an opening has no other answer
unfoldable pub test_lines : Asked → ℕ → ℕ → Answer → List ℕ
test_lines asked n e (Going x) = head_line asked.trace_only asked.k asked.h n e ++ offer_line x
test_lines asked n e (Stray i) = []
test_lines asked n e (Refused x) = []
test_lines asked n e Passed = []
test_lines asked n e Inconclusive = []
test_lines asked n e (Denied m) = number_line (ascii "test refused ") m

-- what an opening prints, where `fault` is the reference's own refusal, 0 for none
unfoldable pub opening_lines : Asked → ℕ → ℕ → ℕ → Answer → List ℕ
opening_lines asked n e fault a = cond (eqb fault 0) (test_lines asked n e a) (number_line (ascii "reference refused ") fault)

-- what is printed where the run has not ended: the lines were too many, or the input ended
unfoldable pub ended_line : Bool → List ℕ
ended_line many = cond many (ascii "lines ended\n") (ascii "input ended\n")

-- ---- after an answer

-- the set that stands offered after an answer, where x stood offered before it: another one only if the run goes on
unfoldable pub next_offer : ℕ → Answer → ℕ
next_offer x (Going y) = y
next_offer x (Stray i) = x
next_offer x (Refused y) = x
next_offer x Passed = x
next_offer x Inconclusive = x
next_offer x (Denied m) = x

-- whether the run goes on after the answer to a report: with the next offer, or with the same one after a refused
-- report; not after an ending
unfoldable pub goes_on : Answer → Bool
goes_on (Going x) = true
goes_on (Stray i) = false
goes_on (Refused x) = false
goes_on Passed = false
goes_on Inconclusive = false
goes_on (Denied m) = true
