-- Nothing to believe: cases. Texts of inputs, one for each kind of line. (01's example, and every text that names a
-- refused probe, compute through the probe lists and stand in the crate `cases_worked`.)
use Rattle.std.specs.Prelude.{◌≡◌, refl, List, [], ◌∷◌, ◌++◌, map, ℕ, replicate, Ok}
use Rattle.base.specs.Count.{count}
use Rattle.base.specs.Range.{all, any, first}
use Rattle.base.specs.Table.{up_to}
use Rattle.events.specs.Bit.{bit, set_of}
use Rattle.events.specs.Sets.{has, inside, meets}
use Rattle.walks.specs.Graph.{walk}
use Rattle.walks.specs.Reach.{nearer, leads}
use Rattle.walks.specs.Near.{meets_in, distance, later, choice, least_from, least_trace}
use Rattle.walks.specs.Cleared.{cleared}
use Rattle.walks.specs.Product.{code, pair_next, product}
use Rattle.walks.specs.Pairs.{on_codes, pair_distance, pair_trace, pair_cleared}
use Rattle.sheet_spec.specs.Kept.{successor, acceptance, acceptances, initials, step}
use Rattle.sheet_spec.specs.Rules.{ranges_ok, count_ok, counts_ok, successor_ok, row_successors_ok, successors_ok, ascends, none_inside, set_ok, row_sets_ok, sets_ok, blank, unused_ok, blanks_ok, reached_ok, code_new, codes_agree, codes_blank, codes_ok}
use Rattle.sheet_spec.specs.Refusals.{head_fault, layout_fault, graph_fault, bytes_fault, sheet_fault, codes_fault, shared_fault}
use Rattle.sheet_spec.specs.Reading.{answer, read_sheet}
use Rattle.sheet_spec.specs.Spelling.{length_field, next_at, start_of, succ_of, sets_of, row_at, row_of, sheet_of, code_of, nodes_at}
use Rattle.sheet_spec.specs.Examples.{example_device, coded_reference, coded_device, only_zero, only_one, may_loop, stopped}
use Rattle.refinement_spec.specs.ViolatingPairs.{strays, has_stray, first_stray, covers, has_refusal, violates, violating}
use Rattle.comparison_spec.specs.Comparison.{pair_count, nearest, nearest_trace, cleared_of, last_row, refusal_named, named, comparison_of, compare_fault, outcome_of, trace_after}
use Rattle.comparison_spec.specs.declared.Outcome.TheVariants.{Refusal}
use Rattle.text_spec.specs.Lines.{ascii, decimal_in, decimal, number_line, sheet_line, event_list, trace_line}
use Rattle.text_spec.specs.Input.{cut_input}
use Rattle.text_pair_spec.specs.Split.{first_end, first_sheet, second_sheet}
use Rattle.text_pair_spec.specs.Program.{device_lines, sheets_lines, input_lines, pair_text}
use Rattle.compare_lines_spec.specs.Lines.{violates_line, refused_probe_line, outcome_lines}
use Rattle.compare_lines_spec.specs.Program.{work_list, trace_list, compared_lines, compare_text}

-- inputs, one for each kind of line
unfoldable pub inputs : List (List ℕ)
inputs =
    (only_zero ++ only_one)
    ∷ (may_loop ++ stopped)
    ∷ (may_loop ++ only_one)
    ∷ (coded_reference ++ coded_device)
    ∷ (example_device ++ coded_device)
    ∷ may_loop
    ∷ (may_loop ++ (stopped ++ (0 ∷ [])))
    ∷ []
    ∷ (0 ∷ 0 ∷ 0 ∷ [])
    ∷ (0 ∷ 0 ∷ 0 ∷ 0 ∷ [])
    ∷ (0 ∷ 0 ∷ 0 ∷ 8 ∷ 1 ∷ 1 ∷ 1 ∷ 0 ∷ 1 ∷ 0 ∷ 0 ∷ [])
    ∷ (0 ∷ 0 ∷ 15 ∷ 252 ∷ replicate 4093 0)
    ∷ (0 ∷ 0 ∷ 15 ∷ 253 ∷ replicate 4093 0)
    ∷ []

-- what `compare` prints for each of the inputs: a stray after the empty trace; refines; unequal E; two sheets of
-- version 2 with other codes; a sheet in version 1 and in version 2, which agree; no byte of a second sheet; a byte
-- after the second sheet; no byte; under 4 bytes; a first sheet of 4 bytes, which is too short; a length field that
-- exceeds the input; a first sheet that ends with the last of 4,096 bytes (its version is 0), and one that ends behind
-- them
unfoldable pub texts : List (List ℕ)
texts =
    ascii "reference 1 nodes 2 events\ndevice 1 nodes 2 events\nviolates after 0 cleared 0\ntrace\nstray 1\n"
    ∷ ascii "reference 1 nodes 1 events\ndevice 1 nodes 1 events\nrefines cleared 1\n"
    ∷ ascii "reference 1 nodes 1 events\ndevice 1 nodes 2 events\ncomparison refused 11\n"
    ∷ ascii "reference 2 nodes 2 events\ndevice 3 nodes 2 events\ncomparison refused 19\n"
    ∷ ascii "reference 3 nodes 2 events\ndevice 3 nodes 2 events\nrefines cleared 3\n"
    ∷ ascii "reference 1 nodes 1 events\ndevice refused 1\n"
    ∷ ascii "reference 1 nodes 1 events\ndevice refused 1\n"
    ∷ ascii "reference refused 1\n"
    ∷ ascii "reference refused 1\n"
    ∷ ascii "reference refused 1\n"
    ∷ ascii "reference refused 1\n"
    ∷ ascii "reference refused 2\n"
    ∷ ascii "reference refused 1\n"
    ∷ []

-- one equation has the texts of all inputs
pub texts_hold : map compare_text inputs ≡ texts
unfolding inputs texts example_device coded_reference coded_device only_zero only_one may_loop stopped compare_text pair_text cut_input input_lines first_sheet second_sheet first_end length_field sheets_lines device_lines compared_lines work_list trace_list outcome_lines number_line sheet_line violates_line event_list trace_line refused_probe_line decimal decimal_in read_sheet answer bytes_fault head_fault layout_fault next_at start_of succ_of sets_of row_at row_of sheet_of graph_fault ranges_ok count_ok counts_ok successor_ok row_successors_ok successors_ok ascends none_inside set_ok row_sets_ok sets_ok blank unused_ok blanks_ok reached_ok sheet_fault successor acceptance acceptances initials step bit set_of has inside meets nearer leads walk all any first up_to count outcome_of trace_after compare_fault comparison_of named refusal_named last_row cleared_of nearest_trace nearest pair_count pair_distance pair_trace pair_cleared on_codes product pair_next code cleared meets_in distance later choice least_from least_trace strays has_stray first_stray covers has_refusal violates violating codes_fault nodes_at code_of codes_ok code_new codes_blank shared_fault codes_agree
texts_hold = refl

-- the lines of an outcome that names a refused probe
pub refusal_holds : outcome_lines (Ok (Refusal 5 8 2 1)) (0 ∷ 1 ∷ 0 ∷ 11 ∷ 0 ∷ 7 ∷ []) ≡ ascii "violates after 5 cleared 8\ntrace 0 1 0 11 0\nrefused 2 by 1\n"
unfolding outcome_lines number_line violates_line event_list trace_line refused_probe_line decimal decimal_in
refusal_holds = refl
