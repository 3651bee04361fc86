-- Nothing to believe: cases. Words as lengths, and texts of a word and an input, one for each kind of line.
use Rattle.std.specs.Prelude.{◌≡◌, refl, List, [], ◌∷◌, ◌++◌, map, ℕ}
use Rattle.base.specs.Range.{all, any}
use Rattle.base.specs.Sum.{sum}
use Rattle.base.specs.Table.{up_to}
use Rattle.events.specs.Bit.{bit, set_of}
use Rattle.events.specs.Sets.{has, inside, meets}
use Rattle.walks.specs.Reach.{nearer, leads}
use Rattle.sheet_spec.specs.Kept.{successor, acceptance, acceptances, initials, may_stop, step}
use Rattle.sheet_spec.specs.Rules.{ranges_ok, count_ok, counts_ok, successors_ok, row_successors_ok, successor_ok, sets_ok, row_sets_ok, set_ok, ascends, none_inside, blank, unused_ok, blanks_ok, reached_ok, code_new, codes_agree, codes_blank, codes_ok}
use Rattle.sheet_spec.specs.Refusals.{head_fault, layout_fault, graph_fault, bytes_fault, sheet_fault, codes_fault, shared_fault}
use Rattle.sheet_spec.specs.Reading.{read_sheet, answer}
use Rattle.sheet_spec.specs.Spelling.{length_field, next_at, start_of, succ_of, sets_of, row_at, row_of, sheet_of, code_of, nodes_at}
use Rattle.sheet_spec.specs.Examples.{example_reference, example_device, coded_reference, coded_device, stopped}
use Rattle.scripts_spec.specs.Scripts.{beginning, count_from, count_of, scripts_fault, scripts_of}
use Rattle.text_spec.specs.Lines.{ascii, decimal_in, decimal, value_from, number_line, sheet_line}
use Rattle.text_spec.specs.Input.{cut_input}
use Rattle.words_spec.specs.Numbers.{is_digit, digit_at, all_digits, few_digits, number_in}
use Rattle.text_pair_spec.specs.Split.{first_end, first_sheet, second_sheet}
use Rattle.text_pair_spec.specs.Program.{device_lines, sheets_lines, input_lines, pair_text}
use Rattle.script_counts_lines_spec.specs.Lines.{total_line, count_lines, scripts_lines}
use Rattle.script_counts_lines_spec.specs.Program.{length_of, counted_lines, scripts_text}

-- words as lengths, and words that are none
pub words_hold : map length_of (ascii "0" ∷ ascii "16" ∷ ascii "00016" ∷ ascii "17" ∷ ascii "65534" ∷ ascii "65535" ∷ ascii "99999" ∷ ascii "000016" ∷ ascii "" ∷ ascii "1a" ∷ ascii "-1" ∷ ascii " 3" ∷ [])
    ≡ (0 ∷ 16 ∷ 16 ∷ 17 ∷ 65534 ∷ 65535 ∷ 65535 ∷ 65535 ∷ 65535 ∷ 65535 ∷ 65535 ∷ 65535 ∷ [])
unfolding length_of number_in few_digits all_digits digit_at is_digit value_from all
words_hold = refl

-- a word and an input, and what is printed of them
abbrev text_of : List ℕ × List ℕ → List ℕ
text_of x = scripts_text x.0 x.1

-- 01's example; exchanged; unequal E; two sheets of version 2 with other codes; a word that is no number; one above 16;
-- no word, with other codes; no byte of a device; no byte at all
unfoldable pub inputs : List (List ℕ × List ℕ)
inputs =
    (ascii "3", example_reference ++ example_device)
    ∷ (ascii "003", example_device ++ example_reference)
    ∷ (ascii "0", example_reference ++ example_device)
    ∷ (ascii "3", example_reference ++ stopped)
    ∷ (ascii "3", coded_reference ++ coded_device)
    ∷ (ascii "three", example_reference ++ example_device)
    ∷ (ascii "17", example_reference ++ coded_device)
    ∷ (ascii "", coded_reference ++ coded_device)
    ∷ (ascii "17", example_reference)
    ∷ (ascii "17", [])
    ∷ []

-- what `script_counts` prints for each of them
unfoldable pub texts : List (List ℕ)
texts =
    ascii "reference 2 nodes 2 events\ndevice 3 nodes 2 events\nscripts of 3 events 8\nwalked 4\ndevice stops 4\nreference stops 0\nends early 4\n"
    ∷ ascii "reference 3 nodes 2 events\ndevice 2 nodes 2 events\nscripts of 3 events 8\nwalked 4\ndevice stops 0\nreference stops 4\nends early 4\n"
    ∷ ascii "reference 2 nodes 2 events\ndevice 3 nodes 2 events\nscripts of 0 events 1\nwalked 1\ndevice stops 0\nreference stops 0\nends early 0\n"
    ∷ ascii "reference 2 nodes 2 events\ndevice 1 nodes 1 events\nscripts refused 11\n"
    ∷ ascii "reference 2 nodes 2 events\ndevice 3 nodes 2 events\nscripts refused 19\n"
    ∷ ascii "reference 2 nodes 2 events\ndevice 3 nodes 2 events\nscripts refused 20\n"
    ∷ ascii "reference 2 nodes 2 events\ndevice 3 nodes 2 events\nscripts refused 20\n"
    ∷ ascii "reference 2 nodes 2 events\ndevice 3 nodes 2 events\nscripts refused 19\n"
    ∷ ascii "reference 2 nodes 2 events\ndevice refused 1\n"
    ∷ ascii "reference refused 1\n"
    ∷ []

-- one equation has the texts of all
pub texts_hold : map text_of inputs ≡ texts
unfolding inputs texts scripts_text counted_lines length_of number_in few_digits all_digits digit_at is_digit value_from scripts_lines count_lines total_line scripts_of scripts_fault count_of count_from beginning sum pair_text cut_input input_lines first_sheet second_sheet first_end sheets_lines device_lines number_line sheet_line decimal decimal_in example_reference example_device coded_reference coded_device stopped read_sheet answer bytes_fault head_fault length_field layout_fault next_at start_of succ_of sets_of row_at row_of sheet_of graph_fault ranges_ok count_ok counts_ok successors_ok row_successors_ok successor_ok sets_ok row_sets_ok set_ok ascends none_inside blank unused_ok blanks_ok reached_ok sheet_fault successor acceptance acceptances initials may_stop step bit has inside meets set_of nearer leads all any up_to codes_fault nodes_at code_of codes_ok code_new codes_blank shared_fault codes_agree
texts_hold = refl
