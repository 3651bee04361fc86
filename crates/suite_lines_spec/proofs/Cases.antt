-- Nothing to believe: cases. Texts of inputs, one for each kind of line.
use Rattle.std.specs.Prelude.{◌≡◌, refl, List, [], ◌∷◌, ◌++◌, map, ℕ}
use Rattle.base.specs.Range.{all, any}
use Rattle.base.specs.Table.{up_to}
use Rattle.events.specs.Bit.{bit, set_of}
use Rattle.events.specs.Sets.{has, inside, meets}
use Rattle.walks.specs.Reach.{nearer, leads}
use Rattle.sheet_spec.specs.Kept.{successor, acceptance, acceptances, initials, may_stop, step}
use Rattle.sheet_spec.specs.Rules.{ranges_ok, count_ok, counts_ok, successors_ok, row_successors_ok, successor_ok, sets_ok, row_sets_ok, set_ok, ascends, none_inside, blank, unused_ok, blanks_ok, reached_ok, code_new, codes_agree, codes_blank, codes_ok}
use Rattle.sheet_spec.specs.Refusals.{head_fault, layout_fault, graph_fault, bytes_fault, sheet_fault, codes_fault, shared_fault}
use Rattle.sheet_spec.specs.Reading.{read_sheet, answer}
use Rattle.sheet_spec.specs.Spelling.{length_field, next_at, start_of, succ_of, sets_of, row_at, row_of, sheet_of, code_of, nodes_at}
use Rattle.sheet_spec.specs.Examples.{example_reference, example_device, coded_reference, coded_device, stopped}
use Rattle.refinement_spec.specs.ViolatingPairs.{strays, has_stray, covers, has_refusal, violates, violating}
use Rattle.verdicts_spec.specs.Verdicts.{fails_from, verdict_fault, verdict_of}
use Rattle.verdicts_spec.specs.Numbers.{judged}
use Rattle.base.specs.Count.{count}
use Rattle.base.specs.Joined.{joined}
use Rattle.verdicts_spec.specs.Suites.{test_count, verdict_number, suite_fault, suite_of, verdicts_after}
use Rattle.text_spec.specs.Lines.{ascii, decimal_in, decimal, number_line, sheet_line}
use Rattle.text_spec.specs.Input.{cut_input}
use Rattle.text_pair_spec.specs.Split.{first_end, first_sheet, second_sheet}
use Rattle.text_pair_spec.specs.Program.{device_lines, sheets_lines, input_lines, pair_text}
use Rattle.suite_lines_spec.specs.Lines.{test_line, test_lines, passed_of, last_words, last_line, suite_lines}
use Rattle.suite_lines_spec.specs.Program.{verdict_list, judged_lines, suite_text}

-- inputs: 01's example; its reference against itself; unequal E; two sheets of version 2 with other codes; 01's example
-- with the device in version 2, which agrees; no byte of a device; no byte at all; a length field that exceeds the
-- input
unfoldable pub inputs : List (List ℕ)
inputs =
    (example_reference ++ example_device)
    ∷ (example_reference ++ example_reference)
    ∷ (example_reference ++ stopped)
    ∷ (coded_reference ++ coded_device)
    ∷ (example_reference ++ coded_device)
    ∷ example_reference
    ∷ []
    ∷ (0 ∷ 0 ∷ 0 ∷ 8 ∷ 1 ∷ 1 ∷ 1 ∷ 0 ∷ 1 ∷ 0 ∷ 0 ∷ [])
    ∷ []

-- what `suite` prints for each of the inputs
unfoldable pub texts : List (List ℕ)
texts =
    ascii "reference 2 nodes 2 events\ndevice 3 nodes 2 events\ntest 0 passes\ntest 1 passes\ntest 2 passes\ntest 3 passes\ntest 4 passes\ntest 5 fails\ntests 6 run 6 failed 1\n"
    ∷ ascii "reference 2 nodes 2 events\ndevice 2 nodes 2 events\ntest 0 passes\ntest 1 passes\ntest 2 passes\ntest 3 passes\ntests 4 run 4 all pass\n"
    ∷ ascii "reference 2 nodes 2 events\ndevice 1 nodes 1 events\nsuite refused 11\n"
    ∷ ascii "reference 2 nodes 2 events\ndevice 3 nodes 2 events\nsuite refused 19\n"
    ∷ ascii "reference 2 nodes 2 events\ndevice 3 nodes 2 events\ntest 0 passes\ntest 1 passes\ntest 2 passes\ntest 3 passes\ntest 4 passes\ntest 5 fails\ntests 6 run 6 failed 1\n"
    ∷ ascii "reference 2 nodes 2 events\ndevice refused 1\n"
    ∷ ascii "reference refused 1\n"
    ∷ ascii "reference refused 1\n"
    ∷ []

-- one equation has the texts of all inputs
pub texts_hold : map suite_text inputs ≡ texts
unfolding inputs texts suite_text pair_text cut_input input_lines first_sheet second_sheet first_end sheets_lines device_lines judged_lines verdict_list suite_lines test_lines test_line joined passed_of last_words last_line number_line sheet_line decimal decimal_in count test_count verdict_number suite_fault suite_of verdicts_after example_reference example_device coded_reference coded_device stopped read_sheet answer bytes_fault head_fault length_field layout_fault next_at start_of succ_of sets_of row_at row_of sheet_of graph_fault ranges_ok count_ok counts_ok successors_ok row_successors_ok successor_ok sets_ok row_sets_ok set_ok ascends none_inside blank unused_ok blanks_ok reached_ok sheet_fault successor acceptance acceptances initials may_stop step bit has inside meets set_of nearer leads all any up_to strays has_stray covers has_refusal violates violating fails_from verdict_fault verdict_of judged codes_fault nodes_at code_of codes_ok code_new codes_blank shared_fault codes_agree
texts_hold = refl
