-- Nothing to believe: cases. Lines that are reports and lines that are not, tests that are asked for, and every kind of
-- line that is printed.
use Rattle.std.specs.Prelude.{◌≡◌, refl, true, false, List, [], ◌∷◌, ◌++◌, map, ℕ}
use Rattle.base.specs.Range.{all}
use Rattle.base.specs.Gather.{gather, select}
use Rattle.events.specs.Bit.{bit}
use Rattle.events.specs.Sets.{has}
use Rattle.text_spec.specs.Lines.{ascii, decimal_in, decimal, value_from, number_line, sheet_line, event_list}
use Rattle.events.specs.Lists.{events_in}
use Rattle.text_spec.specs.Sets.{members, set_words}
use Rattle.words_spec.specs.Numbers.{is_digit, digit_at, all_digits, few_digits, number_in, number_of}
use Rattle.words_spec.specs.Same.{agree_at, same_text}
use Rattle.tests_spec.specs.declared.Report.TheVariants.{Event, Blocked}
use Rattle.tests_spec.specs.declared.Answer.TheVariants.{Going, Stray, Refused, Passed, Inconclusive, Denied}
use Rattle.live_lines_spec.specs.declared.Asked.{Asked}
use Rattle.live_lines_spec.specs.Words.{event_named, report_of, counted_bytes, heard, last_ok, words_ok, asked_of}
use Rattle.live_lines_spec.specs.Answers.{kind_words, head_line, offer_line, refused_set_line, report_words, report_refused_line, answer_lines, next_offer, test_lines, opening_lines, ended_line}

-- lines that are reports, with a carriage return at their end or without it
pub reports_hold : map heard (ascii "blocked" ∷ ascii "event 0" ∷ ascii "event 11" ∷ ascii "event 007" ∷ ascii "event 254" ∷ (ascii "blocked" ++ (13 ∷ [])) ∷ (ascii "event 3" ++ (13 ∷ [])) ∷ [])
    ≡ (Blocked ∷ Event 0 ∷ Event 11 ∷ Event 7 ∷ Event 254 ∷ Blocked ∷ Event 3 ∷ [])
unfolding heard counted_bytes report_of same_text agree_at event_named number_in few_digits all_digits digit_at is_digit value_from all
reports_hold = refl

-- lines that are no reports: no text, half a word, a blank too many or too few, carriage returns alone, two, in front
-- and inside, a large letter, no digit (the codes beside the digits among them), a sign, and numbers that are too large
-- or have too many digits
unfoldable pub no_reports : List (List ℕ)
no_reports =
    ascii "" ∷ ascii "block" ∷ ascii "blocked " ∷ ascii "event" ∷ ascii "event " ∷ ascii "event3" ∷ ascii "event  3" ∷ ascii "event 3 " ∷ (13 ∷ []) ∷ (13 ∷ 13 ∷ []) ∷ (ascii "event 3" ++ (13 ∷ 13 ∷ []))
    ∷ (13 ∷ ascii "event 3") ∷ (13 ∷ ascii "blocked") ∷ (ascii "event " ++ (13 ∷ ascii "3")) ∷ (ascii "event 3" ++ (13 ∷ ascii " ")) ∷ ascii "Event 3" ∷ ascii "event x" ∷ ascii "event /" ∷ ascii "event :"
    ∷ ascii "event +3" ∷ ascii "event 255" ∷ ascii "event 256" ∷ ascii "event 999" ∷ ascii "event 0003" ∷ []

pub others_hold : map heard no_reports ≡ map (λ (line : List ℕ). Event 255) no_reports
unfolding no_reports heard counted_bytes report_of same_text agree_at event_named number_in few_digits all_digits digit_at is_digit value_from all
others_hold = refl

-- tests that are asked for: with two words, with `traces`, with another word, and with an empty one
pub asked_hold : (asked_of (ascii "5") (ascii "7") false [] ∷ asked_of (ascii "5") (ascii "7") true (ascii "traces") ∷ asked_of (ascii "5") (ascii "7") true (ascii "trace") ∷ asked_of (ascii "5") (ascii "7") true [] ∷ [])
    ≡ (record { k = 5; h = 7; trace_only = false } ∷ record { k = 5; h = 7; trace_only = true } ∷ record { k = 65535; h = 0; trace_only = false } ∷ record { k = 65535; h = 0; trace_only = false } ∷ [])
unfolding asked_of words_ok last_ok number_of number_in few_digits all_digits digit_at is_digit value_from all same_text agree_at
asked_hold = refl

-- the first line of a run, with refusals and trace-only
pub heads_hold : (head_line false 1 0 2 3 ∷ head_line true 1023 65535 32 12 ∷ [])
    ≡ (ascii "test 1 choice 0 reference 2 nodes 3 events\n" ∷ ascii "trace-only test 1023 choice 65535 reference 32 nodes 12 events\n" ∷ [])
unfolding head_line kind_words sheet_line decimal decimal_in
heads_hold = refl

-- what the answers to a report print, where events 0 and 1 stood offered
pub answers_hold : map (answer_lines 3) (Going 19 ∷ Going 0 ∷ Stray 7 ∷ Refused 5 ∷ Passed ∷ Inconclusive ∷ Denied 15 ∷ Denied 17 ∷ Denied 16 ∷ [])
    ≡ (ascii "offer 0 1 4\n" ∷ ascii "offer\n" ∷ ascii "run failed stray 7\n" ∷ ascii "run failed refused 5 ( 0 2 )\n" ∷ ascii "run passed\n" ∷ ascii "run inconclusive\n"
    ∷ ascii "report refused 15 no event of the sheet, or no report\noffer 0 1\n" ∷ ascii "report refused 17 the event was not offered\noffer 0 1\n"
    ∷ ascii "report refused 16 the run takes no report\noffer 0 1\n" ∷ [])
unfolding answer_lines offer_line refused_set_line report_refused_line report_words number_line set_words members events_in select gather event_list decimal decimal_in has bit
answers_hold = refl

-- the sets that stand offered after these answers
pub offers_hold : map (next_offer 3) (Going 19 ∷ Going 0 ∷ Stray 7 ∷ Refused 5 ∷ Passed ∷ Inconclusive ∷ Denied 15 ∷ []) ≡ (19 ∷ 0 ∷ 3 ∷ 3 ∷ 3 ∷ 3 ∷ 3 ∷ [])
unfolding next_offer
offers_hold = refl

-- a test for the cases of openings: test 1 with choice number 7
abbrev asked_one : Asked
asked_one = record { k = 1; h = 7; trace_only = false }

-- what the answers to an opening print; an opening has no ending
pub openings_hold : (opening_lines asked_one 2 3 0 (Going 3) ∷ opening_lines asked_one 2 3 0 (Denied 14) ∷ opening_lines asked_one 0 0 3 (Denied 3) ∷ opening_lines asked_one 0 0 1 (Denied 14) ∷ opening_lines asked_one 2 3 0 Passed ∷ opening_lines asked_one 2 3 0 Inconclusive ∷ [])
    ≡ (ascii "test 1 choice 7 reference 2 nodes 3 events\noffer 0 1\n" ∷ ascii "test refused 14\n" ∷ ascii "reference refused 3\n" ∷ ascii "reference refused 1\n" ∷ [] ∷ [] ∷ [])
unfolding opening_lines test_lines head_line kind_words sheet_line offer_line number_line members events_in select gather event_list decimal decimal_in has bit
openings_hold = refl

-- the lines that are printed where the run has not ended
pub stops_hold : map ended_line (true ∷ false ∷ []) ≡ (ascii "lines ended\n" ∷ ascii "input ended\n" ∷ [])
unfolding ended_line
stops_hold = refl
