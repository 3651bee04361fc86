-- Nothing to believe: cases. Words and what they count as, the longest lines, and texts of words and an input, one for
-- each kind of line.
use Rattle.std.specs.Prelude.{◌≡◌, refl, List, [], ◌∷◌, ◌++◌, map, ℕ, Ok, Err}
use Rattle.base.specs.Range.{all, any}
use Rattle.base.specs.Gather.{gather, select}
use Rattle.base.specs.Table.{up_to}
use Rattle.events.specs.Bit.{bit, set_of}
use Rattle.events.specs.Sets.{has, inside, meets}
use Rattle.events.specs.Lists.{events_in}
use Rattle.walks.specs.Reach.{nearer, leads}
use Rattle.sheet_spec.specs.Kept.{successor, acceptance, acceptances, initials, may_stop, step}
use Rattle.sheet_spec.specs.Rules.{ranges_ok, count_ok, counts_ok, successors_ok, row_successors_ok, successor_ok, sets_ok, row_sets_ok, set_ok, ascends, none_inside, blank, unused_ok, blanks_ok, reached_ok, code_new, codes_blank, codes_ok}
use Rattle.sheet_spec.specs.Refusals.{head_fault, layout_fault, graph_fault, bytes_fault, sheet_fault, codes_fault}
use Rattle.sheet_spec.specs.Reading.{read_sheet, answer}
use Rattle.sheet_spec.specs.Spelling.{length_field, next_at, start_of, succ_of, sets_of, row_at, row_of, sheet_of, code_of, nodes_at}
use Rattle.sheet_spec.specs.Examples.{example_reference, example_device, coded_reference, stopped, ending}
use Rattle.load_spec.specs.Xorshift.{shifted_left, shifted_right, mixed_left, mixed_right, next_state}
use Rattle.load_spec.specs.Walks.{initials_at, drawn, walk_from, walk_of}
use Rattle.load_spec.specs.Calls.{seed_ok, wish_ok, walk_fault, walked_of, walk_after}
use Rattle.text_spec.specs.Lines.{ascii, decimal_in, decimal, value_from, number_line, sheet_line, event_list, trace_line}
use Rattle.text_spec.specs.Input.{cut_input}
use Rattle.words_spec.specs.Numbers.{is_digit, digit_at, all_digits, few_digits, number_in}
use Rattle.text_sheet_spec.specs.Head.{rule_words, refusal_words, refused_sheet_line, head_line}
use Rattle.walk_lines_spec.specs.Lines.{length_line, walk_lines}
use Rattle.walk_lines_spec.specs.Program.{seed_of, wish_of, lent, walked_lines, read_lines, walk_text}

-- words as seeds; those that are none count as 0
pub seeds_hold : map seed_of (ascii "1" ∷ ascii "0" ∷ ascii "0000000001" ∷ ascii "00000000001" ∷ ascii "4294967295" ∷ ascii "4294967296" ∷ ascii "9999999999" ∷ ascii "" ∷ ascii "1a" ∷ ascii "-1" ∷ ascii " 3" ∷ ascii "0x1" ∷ [])
    ≡ (1 ∷ 0 ∷ 1 ∷ 0 ∷ 4294967295 ∷ 0 ∷ 0 ∷ 0 ∷ 0 ∷ 0 ∷ 0 ∷ 0 ∷ [])
unfolding seed_of number_in few_digits all_digits digit_at is_digit value_from all
seeds_hold = refl

-- words as wished lengths; those that are none count as 65,535
pub wishes_hold : map wish_of (ascii "0" ∷ ascii "8" ∷ ascii "00008" ∷ ascii "000008" ∷ ascii "4096" ∷ ascii "4097" ∷ ascii "65534" ∷ ascii "65535" ∷ ascii "65536" ∷ ascii "" ∷ ascii "8." ∷ ascii "+8" ∷ [])
    ≡ (0 ∷ 8 ∷ 8 ∷ 65535 ∷ 4096 ∷ 4097 ∷ 65534 ∷ 65535 ∷ 65535 ∷ 65535 ∷ 65535 ∷ 65535 ∷ [])
unfolding wish_of number_in few_digits all_digits digit_at is_digit value_from all
wishes_hold = refl

-- lines of walks and of refusals: only the walk's places of the list are printed
pub lines_hold : length_line 4096 4096 ∷ walk_lines 4096 (Ok 3) (0 ∷ 11 ∷ 10 ∷ 7 ∷ []) ∷ walk_lines 8 (Ok 0) (5 ∷ []) ∷ walk_lines 8 (Err 27) (5 ∷ []) ∷ walk_lines 9999 (Err 28) [] ∷ []
    ≡ (ascii "walked 4096 of 4096\n" ∷ ascii "walked 3 of 4096\ntrace 0 11 10\n" ∷ ascii "walked 0 of 8\ntrace\n" ∷ ascii "walk refused 27\n" ∷ ascii "walk refused 28\n" ∷ [])
unfolding length_line walk_lines number_line trace_line event_list decimal decimal_in
lines_hold = refl

-- two words and an input, and what is printed of them
abbrev text_of : List ℕ × List ℕ × List ℕ → List ℕ
text_of x = walk_text x.0 x.1 x.2

-- 01's reference and device; version 2; a walk that ends early, at once, and never begins; no event wished; seed 0 and
-- no number, which come before the length; a length over 4,096 and no number; refused sheets, whatever the words are
unfoldable pub inputs : List (List ℕ × List ℕ × List ℕ)
inputs =
    (ascii "1", ascii "8", example_reference)
    ∷ (ascii "1", ascii "8", example_device)
    ∷ (ascii "4294967295", ascii "8", example_device)
    ∷ (ascii "0000000001", ascii "00003", coded_reference)
    ∷ (ascii "1", ascii "8", ending)
    ∷ (ascii "2", ascii "8", ending)
    ∷ (ascii "2", ascii "1", ending)
    ∷ (ascii "7", ascii "4096", stopped)
    ∷ (ascii "7", ascii "0", example_reference)
    ∷ (ascii "0", ascii "8", example_reference)
    ∷ (ascii "0", ascii "x", example_reference)
    ∷ (ascii "4294967296", ascii "8", example_reference)
    ∷ (ascii "1", ascii "4097", example_reference)
    ∷ (ascii "1", ascii "x", example_reference)
    ∷ (ascii "0", ascii "x", 0 ∷ 0 ∷ 0 ∷ 7 ∷ 3 ∷ 1 ∷ 1 ∷ 0 ∷ 1 ∷ 0 ∷ 0 ∷ [])
    ∷ (ascii "1", ascii "8", example_reference ++ (0 ∷ []))
    ∷ []

-- what `walk` prints for each of them
unfoldable pub texts : List (List ℕ)
texts =
    ascii "sheet 2 nodes 2 events\nwalked 8 of 8\ntrace 1 1 1 1 1 0 0 0\n"
    ∷ ascii "sheet 3 nodes 2 events\nwalked 8 of 8\ntrace 1 1 0 1 1 0 0 0\n"
    ∷ ascii "sheet 3 nodes 2 events\nwalked 8 of 8\ntrace 1 1 0 0 1 0 0 1\n"
    ∷ ascii "sheet 2 nodes 2 events\nwalked 3 of 3\ntrace 1 1 1\n"
    ∷ ascii "sheet 2 nodes 2 events\nwalked 6 of 8\ntrace 1 1 1 1 1 0\n"
    ∷ ascii "sheet 2 nodes 2 events\nwalked 1 of 8\ntrace 0\n"
    ∷ ascii "sheet 2 nodes 2 events\nwalked 1 of 1\ntrace 0\n"
    ∷ ascii "sheet 1 nodes 1 events\nwalked 0 of 4096\ntrace\n"
    ∷ ascii "sheet 2 nodes 2 events\nwalked 0 of 0\ntrace\n"
    ∷ ascii "sheet 2 nodes 2 events\nwalk refused 27\n"
    ∷ ascii "sheet 2 nodes 2 events\nwalk refused 27\n"
    ∷ ascii "sheet 2 nodes 2 events\nwalk refused 27\n"
    ∷ ascii "sheet 2 nodes 2 events\nwalk refused 28\n"
    ∷ ascii "sheet 2 nodes 2 events\nwalk refused 28\n"
    ∷ ascii "sheet refused 2 version is neither 1 nor 2\n"
    ∷ ascii "sheet refused 1 too short or its length field is wrong\n"
    ∷ []

-- one equation has the texts of all
pub texts_hold : map text_of inputs ≡ texts
unfolding inputs texts walk_text read_lines walked_lines walk_lines length_line lent seed_of wish_of number_in few_digits all_digits digit_at is_digit value_from walked_of walk_after walk_fault seed_ok wish_ok walk_of walk_from drawn initials_at next_state mixed_left mixed_right shifted_left shifted_right events_in select gather cut_input head_line refused_sheet_line refusal_words rule_words number_line sheet_line trace_line event_list decimal decimal_in example_reference example_device coded_reference stopped ending read_sheet answer bytes_fault head_fault length_field layout_fault next_at start_of succ_of sets_of row_at row_of sheet_of graph_fault ranges_ok count_ok counts_ok successors_ok row_successors_ok successor_ok sets_ok row_sets_ok set_ok ascends none_inside blank unused_ok blanks_ok reached_ok sheet_fault successor acceptance acceptances initials may_stop step bit has inside meets set_of nearer leads all any up_to codes_fault nodes_at code_of codes_ok code_new codes_blank
texts_hold = refl
