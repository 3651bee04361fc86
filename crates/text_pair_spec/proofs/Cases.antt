-- Nothing to believe: cases. Texts of inputs with findings that tell the two sheets apart.
use Rattle.std.specs.Prelude.{◌≡◌, refl, List, [], ◌∷◌, ◌++◌, map, ℕ}
use Rattle.base.specs.Range.{all, any}
use Rattle.base.specs.Table.{up_to}
use Rattle.events.specs.Bit.{bit, set_of}
use Rattle.events.specs.Sets.{has, inside}
use Rattle.walks.specs.Reach.{nearer, leads}
use Rattle.sheet_spec.specs.Kept.{successor, acceptance, initials, step}
use Rattle.sheet_spec.specs.Rules.{ranges_ok, count_ok, successor_ok, row_successors_ok, successors_ok, ascends, none_inside, set_ok, row_sets_ok, sets_ok, reached_ok, code_new, codes_ok}
use Rattle.sheet_spec.specs.Reading.{answer, read_sheet}
use Rattle.sheet_spec.specs.Spelling.{length_field, next_at, start_of, succ_of, sets_of, row_at, row_of, sheet_of, code_of, nodes_at}
use Rattle.sheet_spec.specs.Refusals.{head_fault, layout_fault, graph_fault, bytes_fault, codes_fault}
use Rattle.sheet_spec.specs.Examples.{example_reference, example_device}
use Rattle.text_spec.specs.Lines.{ascii, decimal_in, decimal, number_line, sheet_line}
use Rattle.text_spec.specs.Input.{cut_input}
use Rattle.text_pair_spec.specs.Split.{first_end, first_sheet, second_sheet}
use Rattle.text_pair_spec.specs.Program.{Findings, device_lines, sheets_lines, input_lines, pair_text}

-- findings that print how many nodes the two sheets have
unfoldable pub node_counts : Findings
node_counts P Q = number_line (ascii "nodes " ++ (decimal P.n ++ ascii " and ")) Q.n

-- inputs: 01's example; no byte of a device; no byte at all
unfoldable pub inputs : List (List ℕ)
inputs = (example_reference ++ example_device) ∷ example_reference ∷ [] ∷ []

-- what a program with these findings prints for each of the inputs
unfoldable pub texts : List (List ℕ)
texts =
    ascii "reference 2 nodes 2 events\ndevice 3 nodes 2 events\nnodes 2 and 3\n"
    ∷ ascii "reference 2 nodes 2 events\ndevice refused 1\n"
    ∷ ascii "reference refused 1\n"
    ∷ []

-- one equation has the texts of all inputs
pub texts_hold : map (pair_text node_counts) inputs ≡ texts
unfolding inputs texts node_counts example_reference example_device pair_text cut_input input_lines first_sheet second_sheet first_end length_field sheets_lines device_lines number_line sheet_line decimal decimal_in read_sheet answer bytes_fault head_fault layout_fault next_at start_of succ_of sets_of row_at row_of sheet_of graph_fault ranges_ok count_ok successor_ok row_successors_ok successors_ok ascends none_inside set_ok row_sets_ok sets_ok reached_ok successor acceptance initials step bit set_of has inside nearer leads all any up_to codes_fault nodes_at code_of codes_ok code_new
texts_hold = refl
