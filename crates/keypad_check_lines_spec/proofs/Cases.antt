-- Nothing to believe: cases. Words and what they ask for, and texts of what is asked and an input, one for each kind of
-- line.
use Rattle.std.specs.Prelude.{◌≡◌, refl, List, [], ◌∷◌, ◌++◌, map, ℕ, Ok}
use Rattle.base.specs.Range.{all, any, first}
use Rattle.base.specs.Count.{count}
use Rattle.base.specs.Table.{up_to}
use Rattle.events.specs.Bit.{bit, set_of}
use Rattle.events.specs.Sets.{has, inside, meets}
use Rattle.walks.specs.Reach.{nearer, leads}
use Rattle.sheet_spec.specs.Kept.{successor, acceptance, acceptances, initials, may_stop, step}
use Rattle.sheet_spec.specs.Rules.{ranges_ok, count_ok, counts_ok, successors_ok, row_successors_ok, successor_ok, sets_ok, row_sets_ok, set_ok, ascends, none_inside, blank, unused_ok, blanks_ok, reached_ok, code_new, codes_blank, codes_ok}
use Rattle.sheet_spec.specs.Refusals.{head_fault, layout_fault, graph_fault, bytes_fault, sheet_fault, codes_fault}
use Rattle.sheet_spec.specs.Reading.{read_sheet, answer}
use Rattle.sheet_spec.specs.Spelling.{length_field, next_at, start_of, succ_of, sets_of, row_at, row_of, sheet_of, code_of, nodes_at}
use Rattle.sheet_spec.specs.Examples.{example_reference, coded_reference, stopped}
use Rattle.keypad_spec.specs.Tables.{matches, match_count, bad_code, match_from, bad_answer, table_answer}
use Rattle.keypad_spec.specs.Calls.{size_ok, values_ok, events_ok, table_fault, keypad_fault, keypad_of, found_from, found_of}
use Rattle.keypad_spec.specs.declared.Keypad.TheVariants.{Good, Gap, Overlap}
use Rattle.keypad_spec.specs.declared.Found.TheVariants.{Event}
use Rattle.text_spec.specs.Lines.{ascii, decimal_in, decimal, value_from, number_line, sheet_line}
use Rattle.text_spec.specs.Input.{cut_input}
use Rattle.words_spec.specs.Numbers.{is_digit, digit_at, all_digits, few_digits, number_in}
use Rattle.text_sheet_spec.specs.Head.{rule_words, refusal_words, refused_sheet_line, head_line}
use Rattle.text_pair_spec.specs.Split.{first_end, first_sheet, second_sheet}
use Rattle.keypad_check_lines_spec.specs.declared.AskedCode.{AskedCode}
use Rattle.keypad_check_lines_spec.specs.declared.AskedCode.TheVariants.{Nothing, Code, Wrong}
use Rattle.keypad_check_lines_spec.specs.Lines.{rules_line, overlap_line, told_lines, found_line}
use Rattle.keypad_check_lines_spec.specs.Program.{word_code, asked_of, asked_line, table_lines, read_lines, input_lines, keypad_text}

-- words as codes, and words that are none
pub words_hold : map (asked_of 1) (ascii "0" ∷ ascii "7" ∷ ascii "0007" ∷ ascii "255" ∷ ascii "00255" ∷ ascii "256" ∷ ascii "65536" ∷ ascii "000255" ∷ ascii "" ∷ ascii "1a" ∷ ascii "-1" ∷ ascii " 3" ∷ [])
    ≡ (Code 0 ∷ Code 7 ∷ Code 7 ∷ Code 255 ∷ Code 255 ∷ Wrong ∷ Wrong ∷ Wrong ∷ Wrong ∷ Wrong ∷ Wrong ∷ Wrong ∷ [])
unfolding asked_of word_code number_in few_digits all_digits digit_at is_digit value_from all
words_hold = refl

-- how many words there may be
pub counts_hold : map (λ n. asked_of n (ascii "7")) (0 ∷ 1 ∷ 2 ∷ 3 ∷ []) ≡ (Nothing ∷ Code 7 ∷ Wrong ∷ Wrong ∷ [])
unfolding asked_of word_code number_in few_digits all_digits digit_at is_digit value_from all
counts_hold = refl

-- the longest lines of a table: a good one of 64 rules and a code; a gap; an overlap
pub longest_hold : (told_lines 64 (Ok Good) ++ found_line 255 (Ok (Event 11))) ∷ told_lines 63 (Ok (Gap 255)) ∷ told_lines 64 (Ok (Overlap 254 62 63)) ∷ []
    ≡ (ascii "table 64 rules\ngood\ncode 255 event 11\n" ∷ ascii "table 63 rules\ngap 255\n" ∷ ascii "table 64 rules\noverlap 254 by 62 and 63\n" ∷ [])
unfolding told_lines found_line rules_line overlap_line number_line decimal decimal_in
longest_hold = refl

-- what is asked and an input, and what is printed of them
abbrev text_of : AskedCode × List ℕ → List ℕ
text_of x = keypad_text x.0 x.1

-- two rules that share the codes, without and with a code; a gap, and a code that has its rule in that table; an
-- overlap; no rule; a part rule; a value outside its mask; an event that is not below E; a sheet of one event; wrong
-- use; a refused sheet; no byte
unfoldable pub inputs : List (AskedCode × List ℕ)
inputs =
    (Nothing, example_reference ++ (128 ∷ 0 ∷ 0 ∷ 128 ∷ 128 ∷ 1 ∷ []))
    ∷ (Code 200, coded_reference ++ (128 ∷ 0 ∷ 0 ∷ 128 ∷ 128 ∷ 1 ∷ []))
    ∷ (Nothing, example_reference ++ (128 ∷ 0 ∷ 0 ∷ []))
    ∷ (Code 5, example_reference ++ (128 ∷ 0 ∷ 0 ∷ []))
    ∷ (Code 5, example_reference ++ (1 ∷ 0 ∷ 0 ∷ 1 ∷ 1 ∷ 1 ∷ 3 ∷ 2 ∷ 1 ∷ []))
    ∷ (Nothing, example_reference)
    ∷ (Code 5, example_reference ++ (0 ∷ 0 ∷ 0 ∷ 0 ∷ []))
    ∷ (Nothing, example_reference ++ (128 ∷ 1 ∷ 9 ∷ []))
    ∷ (Nothing, example_reference ++ (128 ∷ 128 ∷ 9 ∷ []))
    ∷ (Code 255, stopped ++ (0 ∷ 0 ∷ 0 ∷ []))
    ∷ (Wrong, example_reference ++ (0 ∷ 0 ∷ 0 ∷ []))
    ∷ (Code 5, 0 ∷ 0 ∷ 0 ∷ 7 ∷ 3 ∷ 1 ∷ 1 ∷ 0 ∷ 1 ∷ 0 ∷ 0 ∷ 0 ∷ 0 ∷ 0 ∷ [])
    ∷ (Nothing, [])
    ∷ []

-- what `keypad_check` prints for each of them
unfoldable pub texts : List (List ℕ)
texts =
    ascii "sheet 2 nodes 2 events\ntable 2 rules\ngood\n"
    ∷ ascii "sheet 2 nodes 2 events\ntable 2 rules\ngood\ncode 200 event 1\n"
    ∷ ascii "sheet 2 nodes 2 events\ntable 1 rules\ngap 128\n"
    ∷ ascii "sheet 2 nodes 2 events\ntable 1 rules\ngap 128\n"
    ∷ ascii "sheet 2 nodes 2 events\ntable 3 rules\noverlap 2 by 0 and 2\n"
    ∷ ascii "sheet 2 nodes 2 events\ntable refused 21\n"
    ∷ ascii "sheet 2 nodes 2 events\ntable refused 21\n"
    ∷ ascii "sheet 2 nodes 2 events\ntable refused 22\n"
    ∷ ascii "sheet 2 nodes 2 events\ntable refused 23\n"
    ∷ ascii "sheet 1 nodes 1 events\ntable 1 rules\ngood\ncode 255 event 0\n"
    ∷ []
    ∷ ascii "sheet refused 2 version is neither 1 nor 2\n"
    ∷ ascii "sheet refused 1 too short or its length field is wrong\n"
    ∷ []

-- one equation has the texts of all
pub texts_hold : map text_of inputs ≡ texts
unfolding inputs texts keypad_text input_lines read_lines table_lines asked_line told_lines found_line rules_line overlap_line found_of found_from keypad_of keypad_fault table_fault size_ok values_ok events_ok table_answer bad_answer bad_code match_count match_from matches first count cut_input first_sheet second_sheet first_end head_line refused_sheet_line refusal_words rule_words number_line sheet_line decimal decimal_in example_reference coded_reference stopped read_sheet answer bytes_fault head_fault length_field layout_fault next_at start_of succ_of sets_of row_at row_of sheet_of graph_fault ranges_ok count_ok counts_ok successors_ok row_successors_ok successor_ok sets_ok row_sets_ok set_ok ascends none_inside blank unused_ok blanks_ok reached_ok sheet_fault successor acceptance acceptances initials may_stop step bit has inside meets set_of nearer leads all any up_to codes_fault nodes_at code_of codes_ok code_new codes_blank
texts_hold = refl
