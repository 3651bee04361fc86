-- Nothing to believe: cases. The text of the program `compare` on 01's example, whole, on the same with the device in
-- version 2, and on two pairs that name a refused probe after the empty trace, the first that is missed of two; and
-- where codes differ or one is given twice.
use Rattle.std.specs.Prelude.{◌≡◌, refl, List, [], ◌∷◌, ◌++◌, map, ℕ}
use Rattle.base.specs.Count.{count}
use Rattle.base.specs.Range.{all, any, first}
use Rattle.base.specs.Table.{up_to}
use Rattle.base.specs.Gather.{gather, select}
use Rattle.base.specs.Joined.{joined}
use Rattle.events.specs.Bit.{bit, set_of}
use Rattle.events.specs.Sets.{has, inside, meets}
use Rattle.events.specs.Size.{size}
use Rattle.walks.specs.Graph.{walk}
use Rattle.walks.specs.Reach.{nearer, leads}
use Rattle.walks.specs.Near.{meets_in, distance, later, choice, least_from, least_trace}
use Rattle.walks.specs.Cleared.{cleared}
use Rattle.walks.specs.Product.{code, pair_next, product}
use Rattle.walks.specs.Pairs.{on_codes, pair_distance, pair_trace, pair_cleared}
use Rattle.sheet_spec.specs.Kept.{successor, acceptance, acceptances, initials, step}
use Rattle.sheet_spec.specs.Rules.{ranges_ok, count_ok, counts_ok, successor_ok, row_successors_ok, successors_ok, ascends, none_inside, set_ok, row_sets_ok, sets_ok, blank, unused_ok, blanks_ok, reached_ok, code_new, codes_agree, codes_blank, codes_ok}
use Rattle.sheet_spec.specs.Refusals.{head_fault, layout_fault, graph_fault, bytes_fault, sheet_fault, codes_fault, shared_fault}
use Rattle.sheet_spec.specs.Reading.{answer, read_sheet}
use Rattle.sheet_spec.specs.Spelling.{length_field, next_at, start_of, succ_of, sets_of, row_at, row_of, sheet_of, code_of, nodes_at}
use Rattle.probes_spec.specs.Probes.{hits, is_probe, probes_of, probes}
use Rattle.probes_spec.specs.FirstMissed.{missing, or_next, first_missing, first_missed}
use Rattle.refinement_spec.specs.ViolatingPairs.{strays, has_stray, first_stray, covers, has_refusal, violates, violating}
use Rattle.comparison_spec.specs.Comparison.{pair_count, nearest, nearest_trace, cleared_of, last_row, refusal_named, named, comparison_of, compare_fault, outcome_of, trace_after}
use Rattle.text_spec.specs.Lines.{ascii, decimal_in, decimal, number_line, sheet_line, event_list, trace_line}
use Rattle.text_spec.specs.Input.{cut_input}
use Rattle.text_pair_spec.specs.Split.{first_end, first_sheet, second_sheet}
use Rattle.text_pair_spec.specs.Program.{device_lines, sheets_lines, input_lines, pair_text}
use Rattle.compare_lines_spec.specs.Lines.{violates_line, refused_probe_line, outcome_lines}
use Rattle.compare_lines_spec.specs.Program.{work_list, trace_list, compared_lines, compare_text}
use Rattle.sheet_spec.specs.Examples.{example_reference, example_device, coded_reference, coded_device, must_loop, stopped}
use Rattle.cases_worked.specs.Nodes.{two_sizes}

-- the input of 01's example
unfoldable pub example_input : List ℕ
example_input = example_reference ++ example_device

-- the output of 01's example
unfoldable pub example_text : List ℕ
example_text = ascii "reference 2 nodes 2 events\ndevice 3 nodes 2 events\nviolates after 5 cleared 5\ntrace 0 0 0 0 0\nrefused 2 by 1\n"

-- one node that loops on two events, which have one code
unfoldable pub code_twice : List ℕ
code_twice = 0 ∷ 0 ∷ 0 ∷ 12 ∷ 2 ∷ 2 ∷ 1 ∷ 0 ∷ 9 ∷ 0 ∷ 9 ∷ 0 ∷ 0 ∷ 1 ∷ 0 ∷ 3 ∷ []

-- one node that loops on three events, with the acceptances 3, 4
unfoldable pub other_sizes : List ℕ
other_sizes = 0 ∷ 0 ∷ 0 ∷ 11 ∷ 1 ∷ 3 ∷ 1 ∷ 0 ∷ 0 ∷ 0 ∷ 2 ∷ 0 ∷ 3 ∷ 0 ∷ 4 ∷ []

-- inputs: 01's example; with the device in version 2, where the codes agree; with the reference in version 2, where
-- they do not; a device that may stop where the reference may not; a device with the acceptances 3, 4 for a reference
-- with 5, 6 (02, K3); a code twice in the reference, and in the device
unfoldable pub inputs : List (List ℕ)
inputs =
    example_input
    ∷ (example_reference ++ coded_device)
    ∷ (coded_reference ++ example_device)
    ∷ (must_loop ++ stopped)
    ∷ (two_sizes ++ other_sizes)
    ∷ (code_twice ++ stopped)
    ∷ (stopped ++ code_twice)
    ∷ []

-- what `compare` prints for each of the inputs
unfoldable pub texts : List (List ℕ)
texts =
    example_text
    ∷ example_text
    ∷ ascii "reference 2 nodes 2 events\ndevice 3 nodes 2 events\ncomparison refused 19\n"
    ∷ ascii "reference 1 nodes 1 events\ndevice 1 nodes 1 events\nviolates after 0 cleared 0\ntrace\nrefused 1 by 0\n"
    ∷ ascii "reference 1 nodes 3 events\ndevice 1 nodes 3 events\nviolates after 0 cleared 0\ntrace\nrefused 4 by 3\n"
    ∷ ascii "reference refused 18\n"
    ∷ ascii "reference 1 nodes 1 events\ndevice refused 18\n"
    ∷ []

pub texts_hold : map compare_text inputs ≡ texts
unfolding inputs texts code_twice two_sizes other_sizes example_input example_reference example_device coded_reference coded_device example_text must_loop stopped compare_text pair_text cut_input input_lines first_sheet second_sheet first_end length_field sheets_lines device_lines compared_lines work_list trace_list outcome_lines number_line sheet_line violates_line event_list trace_line refused_probe_line decimal decimal_in read_sheet answer bytes_fault head_fault layout_fault next_at start_of succ_of sets_of row_at row_of sheet_of graph_fault ranges_ok count_ok counts_ok successor_ok row_successors_ok successors_ok ascends none_inside set_ok row_sets_ok sets_ok blank unused_ok blanks_ok reached_ok sheet_fault successor acceptance acceptances initials step bit set_of has inside meets nearer leads walk all any first up_to count outcome_of trace_after compare_fault comparison_of named refusal_named last_row cleared_of nearest_trace nearest pair_count pair_distance pair_trace pair_cleared on_codes product pair_next code cleared meets_in distance later choice least_from least_trace strays has_stray first_stray covers has_refusal violates violating hits is_probe gather select joined size probes_of probes missing or_next first_missing first_missed codes_fault nodes_at code_of codes_ok code_new codes_blank shared_fault codes_agree
texts_hold = refl
