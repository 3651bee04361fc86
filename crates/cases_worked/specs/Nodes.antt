-- Nothing to believe: cases. The lines of the program `probe_list`: of 01's example reference in both versions, of
-- three nodes of which one may stop, of two nodes with optional events, and of a node with probes of two sizes; and of
-- a kept sheet with a code twice.
use Rattle.std.specs.Prelude.{◌≡◌, refl, List, [], ◌∷◌, map, ℕ, replicate}
use Rattle.base.specs.Range.{all, any}
use Rattle.base.specs.Count.{count}
use Rattle.base.specs.Table.{up_to}
use Rattle.base.specs.Gather.{gather, select}
use Rattle.base.specs.Joined.{joined}
use Rattle.events.specs.Bit.{bit, set_of}
use Rattle.events.specs.Sets.{has, inside, meets}
use Rattle.events.specs.Size.{size}
use Rattle.walks.specs.Graph.{walk}
use Rattle.walks.specs.Reach.{nearer, leads}
use Rattle.sheet_spec.specs.Kept.{recoded, successor, acceptance, acceptances, initials, may_stop, step}
use Rattle.sheet_spec.specs.Rules.{ranges_ok, count_ok, counts_ok, successor_ok, row_successors_ok, successors_ok, ascends, none_inside, set_ok, row_sets_ok, sets_ok, blank, unused_ok, blanks_ok, reached_ok, code_new, codes_blank, codes_ok}
use Rattle.sheet_spec.specs.Refusals.{head_fault, layout_fault, graph_fault, bytes_fault, sheet_fault, codes_fault}
use Rattle.sheet_spec.specs.Reading.{answer, read_sheet}
use Rattle.sheet_spec.specs.Spelling.{length_field, next_at, start_of, succ_of, sets_of, row_at, row_of, sheet_of, code_of, nodes_at}
use Rattle.probes_spec.specs.Probes.{hits, is_probe, probes_of, probes}
use Rattle.probes_spec.specs.Listing.{node_probes, list_fault}
use Rattle.text_spec.specs.Lines.{ascii, decimal_in, decimal, event_list}
use Rattle.events.specs.Lists.{events_in}
use Rattle.text_spec.specs.Sets.{members, set_words}
use Rattle.text_sheet_spec.specs.Node.{probe_space, place_words, set_list, probes_line, may_stop_line, denied_line, node_line, optional, optional_line, optional_text, node_text}
use Rattle.text_sheet_spec.specs.Cases.{three_nodes}
use Rattle.sheet_spec.specs.Examples.{example_reference, coded_reference, sheet}

-- 01's example reference has two nodes; there is no node 2
pub reference_lines : map (node_text (sheet example_reference)) (0 ∷ 1 ∷ 2 ∷ [])
    ≡ (ascii "node 0 probes 3 ( 0 1 )\n" ∷ ascii "node 1 probes 1 ( 0 ) 2 ( 1 )\n" ∷ ascii "node 2 refused 9\n" ∷ [])
unfolding example_reference sheet node_text optional_text optional_line optional node_line probes_line may_stop_line denied_line set_list place_words probe_space joined node_probes list_fault set_words members events_in event_list decimal decimal_in read_sheet answer bytes_fault head_fault length_field layout_fault next_at start_of succ_of sets_of row_at row_of sheet_of graph_fault ranges_ok count_ok counts_ok successor_ok row_successors_ok successors_ok ascends none_inside set_ok row_sets_ok sets_ok blank unused_ok blanks_ok reached_ok sheet_fault successor acceptance acceptances initials may_stop step bit set_of has inside meets nearer leads walk all any up_to hits is_probe gather select size count probes_of probes codes_fault nodes_at code_of codes_ok code_new codes_blank
reference_lines = refl

-- the codes of version 2 play no part in its lines
pub coded_lines : map (node_text (sheet coded_reference)) (0 ∷ 1 ∷ [])
    ≡ (ascii "node 0 probes 3 ( 0 1 )\n" ∷ ascii "node 1 probes 1 ( 0 ) 2 ( 1 )\n" ∷ [])
unfolding coded_reference sheet node_text optional_text optional_line optional node_line probes_line may_stop_line denied_line set_list place_words probe_space joined node_probes list_fault set_words members events_in event_list decimal decimal_in read_sheet answer bytes_fault head_fault length_field layout_fault next_at start_of succ_of sets_of row_at row_of sheet_of graph_fault ranges_ok count_ok counts_ok successor_ok row_successors_ok successors_ok ascends none_inside set_ok row_sets_ok sets_ok blank unused_ok blanks_ok reached_ok sheet_fault successor acceptance acceptances initials may_stop step bit set_of has inside meets nearer leads walk all any up_to hits is_probe gather select size count probes_of probes codes_fault nodes_at code_of codes_ok code_new codes_blank
coded_lines = refl

-- three nodes, of which the last may stop
pub three_lines : map (node_text (sheet three_nodes)) (0 ∷ 1 ∷ 2 ∷ [])
    ≡ (ascii "node 0 probes 3 ( 0 1 )\n" ∷ ascii "node 1 probes 1 ( 0 )\n" ∷ ascii "node 2 may stop\n" ∷ [])
unfolding three_nodes sheet node_text optional_text optional_line optional node_line probes_line may_stop_line denied_line set_list place_words probe_space joined node_probes list_fault set_words members events_in event_list decimal decimal_in read_sheet answer bytes_fault head_fault length_field layout_fault next_at start_of succ_of sets_of row_at row_of sheet_of graph_fault ranges_ok count_ok counts_ok successor_ok row_successors_ok successors_ok ascends none_inside set_ok row_sets_ok sets_ok blank unused_ok blanks_ok reached_ok sheet_fault successor acceptance acceptances initials may_stop step bit set_of has inside meets nearer leads walk all any up_to hits is_probe gather select size count probes_of probes codes_fault nodes_at code_of codes_ok code_new codes_blank
three_lines = refl

-- two nodes with two events: at node 0 nothing demands event 1, node 1 may stop and has event 0
unfoldable pub two_nodes : List ℕ
two_nodes = 0 ∷ 0 ∷ 0 ∷ 13 ∷ 1 ∷ 2 ∷ 2 ∷ 1 ∷ 0 ∷ 1 ∷ 0 ∷ 1 ∷ 0 ∷ 255 ∷ 1 ∷ 0 ∷ 0 ∷ []

-- a line of optional events follows that of the probes, or that the node may stop
pub optional_lines : map (node_text (sheet two_nodes)) (0 ∷ 1 ∷ [])
    ≡ (ascii "node 0 probes 1 ( 0 )\nnode 0 optional 1\n" ∷ ascii "node 1 may stop\nnode 1 optional 0\n" ∷ [])
unfolding two_nodes sheet node_text optional_text optional_line optional node_line probes_line may_stop_line denied_line set_list place_words probe_space joined node_probes list_fault set_words members events_in event_list decimal decimal_in read_sheet answer bytes_fault head_fault length_field layout_fault next_at start_of succ_of sets_of row_at row_of sheet_of graph_fault ranges_ok count_ok counts_ok successor_ok row_successors_ok successors_ok ascends none_inside set_ok row_sets_ok sets_ok blank unused_ok blanks_ok reached_ok sheet_fault successor acceptance acceptances initials may_stop step bit set_of has inside meets nearer leads walk all any up_to hits is_probe gather select size count probes_of probes codes_fault nodes_at code_of codes_ok code_new codes_blank
optional_lines = refl

-- one node that loops on three events, with the acceptances 5, 6 (02, K3)
unfoldable pub two_sizes : List ℕ
two_sizes = 0 ∷ 0 ∷ 0 ∷ 11 ∷ 1 ∷ 3 ∷ 1 ∷ 0 ∷ 0 ∷ 0 ∷ 2 ∷ 0 ∷ 5 ∷ 0 ∷ 6 ∷ []

-- the probe with fewer events stands first
pub size_lines : map (node_text (sheet two_sizes)) (0 ∷ []) ≡ (ascii "node 0 probes 4 ( 2 ) 3 ( 0 1 )\n" ∷ [])
unfolding two_sizes sheet node_text optional_text optional_line optional node_line probes_line may_stop_line denied_line set_list place_words probe_space joined node_probes list_fault set_words members events_in event_list decimal decimal_in read_sheet answer bytes_fault head_fault length_field layout_fault next_at start_of succ_of sets_of row_at row_of sheet_of graph_fault ranges_ok count_ok counts_ok successor_ok row_successors_ok successors_ok ascends none_inside set_ok row_sets_ok sets_ok blank unused_ok blanks_ok reached_ok sheet_fault successor acceptance acceptances initials may_stop step bit set_of has inside meets nearer leads walk all any up_to hits is_probe gather select size count probes_of probes codes_fault nodes_at code_of codes_ok code_new codes_blank
size_lines = refl

-- the sheet of a refused reading, all 0: each node is refused with its number
pub refused_lines : map (node_text (sheet [])) (0 ∷ 255 ∷ []) ≡ (ascii "node 0 refused 3\n" ∷ ascii "node 255 refused 3\n" ∷ [])
unfolding sheet node_text node_line denied_line probe_space list_fault decimal decimal_in read_sheet answer bytes_fault head_fault length_field sheet_fault ranges_ok codes_ok code_new codes_blank
refused_lines = refl

-- a kept sheet whose two events have one code: each node is refused with 18
pub code_twice_lines : map (node_text (recoded (sheet example_reference) (replicate 12 0))) (0 ∷ 255 ∷ [])
    ≡ (ascii "node 0 refused 18\n" ∷ ascii "node 255 refused 18\n" ∷ [])
unfolding example_reference sheet node_text node_line denied_line probe_space list_fault decimal decimal_in read_sheet answer bytes_fault head_fault length_field layout_fault next_at start_of succ_of sets_of row_at row_of sheet_of graph_fault ranges_ok count_ok counts_ok successor_ok row_successors_ok successors_ok ascends none_inside set_ok row_sets_ok sets_ok blank unused_ok blanks_ok reached_ok sheet_fault successor acceptance acceptances initials may_stop step bit set_of has inside meets nearer leads walk all any up_to codes_fault nodes_at code_of codes_ok code_new codes_blank
code_twice_lines = refl
