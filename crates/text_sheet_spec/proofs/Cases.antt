-- Nothing to believe: laws of what specs/Cases.antt defines.
use Rattle.std.specs.Prelude.{◌≡◌, refl, [], ◌∷◌, map}
use Rattle.base.specs.Range.{all, any}
use Rattle.base.specs.Table.{up_to}
use Rattle.base.specs.Gather.{gather, select}
use Rattle.base.specs.Joined.{joined}
use Rattle.events.specs.Bit.{bit, set_of}
use Rattle.events.specs.Sets.{has, inside}
use Rattle.walks.specs.Graph.{walk}
use Rattle.walks.specs.Reach.{nearer, leads}
use Rattle.sheet_spec.specs.Kept.{successor, acceptance, acceptances, initials, may_stop, step}
use Rattle.sheet_spec.specs.Rules.{ranges_ok, count_ok, successor_ok, row_successors_ok, successors_ok, ascends, none_inside, set_ok, row_sets_ok, sets_ok, reached_ok, code_new, codes_ok, first_codes_ok}
use Rattle.sheet_spec.specs.Reading.{answer, read_sheet}
use Rattle.sheet_spec.specs.Examples.{coded_reference, coded_device}
use Rattle.sheet_spec.specs.Spelling.{length_field, next_at, start_of, succ_of, sets_of, row_at, row_of, sheet_of, code_of, nodes_at}
use Rattle.sheet_spec.specs.Refusals.{head_fault, layout_fault, graph_fault, bytes_fault, codes_fault}
use Rattle.text_spec.specs.Lines.{ascii, decimal_in, decimal, number_line, sheet_line, event_list}
use Rattle.events.specs.Lists.{events_in}
use Rattle.text_spec.specs.Sets.{members, set_words}
use Rattle.text_spec.specs.Input.{cut_input}
use Rattle.text_sheet_spec.specs.Head.{rule_words, refusal_words, refused_sheet_line, head_line}
use Rattle.text_sheet_spec.specs.Show.{code_line, codes_lines, event_line, successor_line, accepts_line, acceptance_line, rest_lines, row_lines, node_lines, body_lines, show_lines, show_text}
use Rattle.text_sheet_spec.specs.Node.{place_words, set_list, probes_line, may_stop_line, denied_line, optional, optional_line, optional_text}
use Rattle.text_sheet_spec.specs.Cases.{inputs, rows, texts, three_nodes}

-- one equation has the texts of all inputs
pub texts_hold : map show_text inputs ≡ texts
unfolding inputs texts three_nodes coded_reference coded_device show_text cut_input show_lines body_lines codes_lines first_codes_ok code_line node_lines row_lines rest_lines acceptance_line accepts_line successor_line event_line head_line refused_sheet_line refusal_words rule_words joined number_line sheet_line set_words members events_in select gather event_list decimal decimal_in read_sheet answer bytes_fault head_fault length_field layout_fault next_at start_of succ_of sets_of row_at row_of sheet_of graph_fault ranges_ok count_ok successor_ok row_successors_ok successors_ok ascends none_inside set_ok row_sets_ok sets_ok reached_ok successor acceptance acceptances initials may_stop step bit set_of has inside nearer leads walk all any up_to codes_fault nodes_at code_of codes_ok code_new
texts_hold = refl

-- the lines of `probe_list` for a list of probes, a node that may stop, and a refusal
pub probes_hold : probes_line 0 (1 ∷ 2 ∷ 12 ∷ []) ≡ ascii "node 0 probes 1 ( 0 ) 2 ( 1 ) 12 ( 2 3 )\n"
unfolding probes_line set_list place_words joined set_words members events_in select gather event_list decimal decimal_in has bit
probes_hold = refl

pub stop_holds : may_stop_line 31 ≡ ascii "node 31 may stop\n"
unfolding may_stop_line decimal decimal_in
stop_holds = refl

pub denied_holds : denied_line 255 9 ≡ ascii "node 255 refused 9\n"
unfolding denied_line decimal decimal_in
denied_holds = refl

-- the line of the optional events of each row, as node 7; where there are none, no line
pub optional_hold : map (λ r. optional_text 7 (optional 3 r)) rows
    ≡ ([] ∷ ascii "node 7 optional 0\n" ∷ ascii "node 7 optional 0 2\n" ∷ [] ∷ ascii "node 7 optional 2\n" ∷ [])
unfolding rows optional optional_text optional_line members events_in select gather event_list decimal decimal_in initials successor acceptance set_of has bit any
optional_hold = refl
