-- Nothing to believe: laws of what specs/Table.antt defines.
use Rattle.std.specs.Prelude.{refl, List, ◌++◌, ℕ}
use Rattle.std.proofs.Common.{sym, ap₂, ◌∙◌}
use Rattle.std.proofs.lemmas.List.{map-append}
use Rattle.base.specs.Range.{all, any, first}
use Rattle.base.specs.Count.{count}
use Rattle.base.specs.Sum.{sum}
use Rattle.base.specs.Table.{up_to}
use Rattle.base.specs.Gather.{gather, select}
use Rattle.base.specs.Joined.{joined}
use Rattle.events.specs.Bit.{bit, set_of}
use Rattle.events.specs.Sets.{has, inside, meets, insert}
use Rattle.events.specs.Size.{size}
use Rattle.events.specs.Lists.{events_in}
use Rattle.walks.specs.Graph.{walk}
use Rattle.walks.specs.Reach.{nearer, leads}
use Rattle.walks.specs.Near.{meets_in, distance, later, choice, least_from, least_trace}
use Rattle.walks.specs.Cleared.{cleared}
use Rattle.walks.specs.Product.{code, pair_next, product}
use Rattle.walks.specs.Pairs.{on_codes, pair_distance, pair_trace, pair_cleared}
use Rattle.sheet_spec.specs.Kept.{successor, acceptance, acceptances, initials, may_stop, step}
use Rattle.sheet_spec.specs.Rules.{ranges_ok, count_ok, counts_ok, successors_ok, row_successors_ok, successor_ok, sets_ok, row_sets_ok, set_ok, ascends, none_inside, blank, unused_ok, blanks_ok, reached_ok, code_new, codes_agree, codes_blank, codes_ok}
use Rattle.sheet_spec.specs.Refusals.{head_fault, layout_fault, graph_fault, bytes_fault, sheet_fault, codes_fault, shared_fault}
use Rattle.sheet_spec.specs.Reading.{read_sheet, answer}
use Rattle.sheet_spec.specs.Spelling.{length_field, next_at, start_of, succ_of, sets_of, row_at, row_of, sheet_of, code_of, nodes_at}
use Rattle.sheet_spec.specs.Encoding.{two, four, encode_words, encode_row, encode_rows, encode_codes, encode_body, encode}
use Rattle.probes_spec.specs.Probes.{hits, is_probe, probes_of, probes}
use Rattle.probes_spec.specs.Listing.{node_probes, list_fault, listed_numbers, listed_of, list_after}
use Rattle.probes_spec.specs.FirstMissed.{missing, or_next, first_missing, first_missed}
use Rattle.refinement_spec.specs.ViolatingPairs.{strays, has_stray, first_stray, covers, has_refusal, violates, violating}
use Rattle.tests_spec.specs.Flags.{flag, flag_of}
use Rattle.tests_spec.specs.Runs.{all_events, outside, probes_at, chosen, offer_of, new_run, open_fault, open_of, record_ok, event_fault, report_fault, moved_by, ended_run, answer_of, step_of}
use Rattle.verdicts_spec.specs.Verdicts.{fails_from, verdict_fault, verdict_of}
use Rattle.verdicts_spec.specs.Suites.{test_count, suite_fault}
use Rattle.tests_spec.specs.Numbers.{said}
use Rattle.verdicts_spec.specs.Numbers.{judged}
use Rattle.comparison_spec.specs.Comparison.{pair_count, nearest, nearest_trace, cleared_of, last_row, refusal_named, named, comparison_of, compare_fault, outcome_of, trace_after, work_after}
use Rattle.comparison_spec.specs.Numbers.{compared}
use Rattle.scripts_spec.specs.Scripts.{beginning, count_from, count_of, scripts_fault, scripts_of}
use Rattle.keypad_spec.specs.Tables.{matches, match_count, bad_code, match_from, bad_answer, table_answer}
use Rattle.keypad_spec.specs.Calls.{size_ok, values_ok, events_ok, table_fault, keypad_fault, keypad_of, found_from, found_of}
use Rattle.keypad_spec.specs.Numbers.{keyed, looked}
use Rattle.load_spec.specs.Xorshift.{shifted_left, shifted_right, mixed_left, mixed_right, next_state}
use Rattle.load_spec.specs.Walks.{initials_at, drawn, walk_from, walk_of}
use Rattle.load_spec.specs.Calls.{seed_ok, wish_ok, walk_fault, walked_numbers, walked_of, walk_after}
use Rattle.bound_spec.specs.Sheets.{reference_row, device_row, bound_reference, bound_device}
use Rattle.bound_spec.specs.Calls.{sizes_ok, room_ok, bound_fault, bound_numbers, bound_of, reference_after, device_after}
use Rattle.sheet_spec.specs.Examples.{example_reference, example_device, coded_reference, coded_device, only_zero, only_one, may_loop, must_loop, stopped, ending, sheet}
use Rattle.cases.specs.Table.{Case, Hold, accepting, answers_of, climbing, climbing_four, compared_numbers, device_of, device_with, filled, judged_numbers, kept, kept_node, kept_with, keyed_numbers, lent, list_numbers, lists, looked_numbers, looping, node_numbers, numbers, numbers_of, pair_numbers, pair_written, read_numbers, record_numbers, reference_of, row_numbers, rows_of01, rows_of02, rows_of_bounds, rows_of_keypads, rows_of_walks, rules, scripts_numbers, set_bytes, staying, staying_three, table, trace, unread, unwritten, walk_numbers, work, written}

-- rows that hold, and others that do, hold together
holds_both : (rows others : List (Case × List ℕ)) → Hold rows → Hold others → Hold (rows ++ others)
holds_both rows others p q = map-append _ rows others ∙ ap₂ ◌++◌ p q ∙ sym (map-append _ rows others)

-- the parts compute one after the other, which takes less memory than the whole
rows_01 : Hold rows_of01
unfolding set_bytes looping accepting device_with kept_with pair_numbers test_count suite_fault coded_reference coded_device row_numbers list_numbers filled kept_node node_numbers kept unread node_probes list_fault listed_numbers listed_of list_after numbers_of rows_of01 lists lent work_after read_numbers numbers judged_numbers record_numbers answers_of compared_numbers work trace sheet example_reference example_device only_zero only_one may_loop must_loop stopped read_sheet answer bytes_fault head_fault length_field layout_fault next_at start_of succ_of sets_of row_at row_of sheet_of graph_fault ranges_ok count_ok counts_ok successors_ok row_successors_ok successor_ok sets_ok row_sets_ok set_ok ascends none_inside blank unused_ok blanks_ok reached_ok sheet_fault successor acceptance acceptances initials may_stop step bit has inside meets insert set_of walk nearer leads meets_in distance later choice least_from least_trace cleared code pair_next product on_codes pair_distance pair_trace pair_cleared all any first count up_to hits is_probe gather select joined size probes_of probes missing or_next first_missing first_missed strays has_stray first_stray covers has_refusal violates violating all_events outside probes_at chosen flag flag_of offer_of new_run record_ok open_fault open_of ended_run event_fault report_fault moved_by answer_of step_of fails_from verdict_fault verdict_of nearest said judged pair_count nearest_trace cleared_of last_row refusal_named named comparison_of compare_fault outcome_of trace_after compared codes_fault nodes_at code_of codes_ok code_new codes_blank shared_fault codes_agree scripts_numbers sum beginning count_from count_of scripts_fault scripts_of
rows_01 = refl

rows_02 : Hold rows_of02
unfolding set_bytes looping accepting device_with kept_with pair_numbers test_count suite_fault coded_reference coded_device row_numbers list_numbers filled kept_node node_numbers kept unread node_probes list_fault listed_numbers listed_of list_after numbers_of rows_of02 lists lent work_after read_numbers numbers judged_numbers record_numbers answers_of compared_numbers work trace sheet example_reference example_device only_zero only_one may_loop must_loop stopped read_sheet answer bytes_fault head_fault length_field layout_fault next_at start_of succ_of sets_of row_at row_of sheet_of graph_fault ranges_ok count_ok counts_ok successors_ok row_successors_ok successor_ok sets_ok row_sets_ok set_ok ascends none_inside blank unused_ok blanks_ok reached_ok sheet_fault successor acceptance acceptances initials may_stop step bit has inside meets insert set_of walk nearer leads meets_in distance later choice least_from least_trace cleared code pair_next product on_codes pair_distance pair_trace pair_cleared all any first count up_to hits is_probe gather select joined size probes_of probes missing or_next first_missing first_missed strays has_stray first_stray covers has_refusal violates violating all_events outside probes_at chosen flag flag_of offer_of new_run record_ok open_fault open_of ended_run event_fault report_fault moved_by answer_of step_of fails_from verdict_fault verdict_of nearest said judged pair_count nearest_trace cleared_of last_row refusal_named named comparison_of compare_fault outcome_of trace_after compared codes_fault nodes_at code_of codes_ok code_new codes_blank shared_fault codes_agree scripts_numbers sum beginning count_from count_of scripts_fault scripts_of
rows_02 = refl

rows_keypads : Hold rows_of_keypads
unfolding numbers_of rows_of_keypads sheet example_reference may_loop read_sheet answer bytes_fault head_fault length_field layout_fault next_at start_of succ_of sets_of row_at row_of sheet_of graph_fault ranges_ok count_ok counts_ok successors_ok row_successors_ok successor_ok sets_ok row_sets_ok set_ok ascends none_inside blank unused_ok blanks_ok reached_ok sheet_fault successor acceptance acceptances initials may_stop step bit has inside meets set_of nearer leads all any first count up_to joined codes_fault nodes_at code_of codes_ok code_new codes_blank keyed_numbers looked_numbers rules keyed looked found_of found_from keypad_of keypad_fault table_fault size_ok values_ok events_ok table_answer bad_answer bad_code match_count match_from matches
rows_keypads = refl

rows_walks : Hold rows_of_walks
unfolding numbers_of rows_of_walks accepting looping set_bytes sheet example_reference example_device coded_reference only_zero only_one stopped ending read_sheet answer bytes_fault head_fault length_field layout_fault next_at start_of succ_of sets_of row_at row_of sheet_of graph_fault ranges_ok count_ok counts_ok successors_ok row_successors_ok successor_ok sets_ok row_sets_ok set_ok ascends none_inside blank unused_ok blanks_ok reached_ok sheet_fault successor acceptance acceptances initials may_stop step bit has inside meets set_of nearer leads all any up_to gather select codes_fault nodes_at code_of codes_ok code_new codes_blank walk_numbers walked_numbers walked_of walk_after walk_fault seed_ok wish_ok walk_of walk_from drawn initials_at events_in next_state mixed_left mixed_right shifted_left shifted_right
rows_walks = refl

rows_bounds : Hold rows_of_bounds
unfolding numbers_of rows_of_bounds staying climbing staying_three climbing_four written unwritten pair_written reference_of device_of filled lists work_after judged_numbers compared_numbers work trace sheet only_zero only_one read_sheet answer bytes_fault head_fault length_field layout_fault next_at start_of succ_of sets_of row_at row_of sheet_of graph_fault ranges_ok count_ok counts_ok successors_ok row_successors_ok successor_ok sets_ok row_sets_ok set_ok ascends none_inside blank unused_ok blanks_ok reached_ok sheet_fault successor acceptance acceptances initials may_stop step bit has inside meets insert set_of walk nearer leads meets_in distance later choice least_from least_trace cleared code pair_next product on_codes pair_distance pair_trace pair_cleared all any first count up_to hits is_probe gather select joined size probes_of probes missing or_next first_missing first_missed strays has_stray first_stray covers has_refusal violates violating all_events outside probes_at fails_from verdict_fault verdict_of nearest judged pair_count nearest_trace cleared_of last_row refusal_named named comparison_of compare_fault outcome_of trace_after compared codes_fault nodes_at code_of codes_ok code_new codes_blank shared_fault codes_agree sizes_ok room_ok bound_fault bound_numbers bound_of reference_after device_after bound_reference bound_device reference_row device_row encode encode_body encode_codes encode_rows encode_row encode_words four two
rows_bounds = refl

-- every row answers what 01 and 02 say
pub cases_hold : Hold table
unfolding table
cases_hold =
    holds_both rows_of01 (rows_of02 ++ (rows_of_keypads ++ (rows_of_walks ++ rows_of_bounds))) rows_01
    (holds_both rows_of02 (rows_of_keypads ++ (rows_of_walks ++ rows_of_bounds)) rows_02
    (holds_both rows_of_keypads (rows_of_walks ++ rows_of_bounds) rows_keypads
    (holds_both rows_of_walks rows_of_bounds rows_walks rows_bounds)))
