-- Nothing to believe: cases. The lines of a small pair and of the largest, the bytes of the smallest, and words that
-- are refused.
use Rattle.std.specs.Prelude.{◌≡◌, refl, []}
use Rattle.base.specs.Range.{all}
use Rattle.base.specs.Table.{up_to}
use Rattle.sheet_spec.specs.Encoding.{two, four, encode_words, encode_row, encode_rows, encode_codes, encode_body, encode}
use Rattle.sheet_spec.specs.Examples.{only_zero, only_one}
use Rattle.bound_spec.specs.Sheets.{reference_row, device_row, bound_reference, bound_device}
use Rattle.bound_spec.specs.Calls.{sizes_ok, room_ok, bound_fault, bound_of, reference_after, device_after}
use Rattle.text_spec.specs.Lines.{ascii, decimal_in, decimal, value_from, number_line}
use Rattle.words_spec.specs.Numbers.{is_digit, digit_at, all_digits, few_digits, number_in}
use Rattle.words_spec.specs.Same.{agree_at, same_text}
use Rattle.bound_lines_spec.specs.Lines.{bytes_line, refused_line, bound_lines, reference_part, device_part, refusal_part}
use Rattle.bound_lines_spec.specs.Program.{size_of, asked_of, lent_reference, lent_device, answered, told_of, said_of, bound_text, bound_error}

-- p 3, q 4
small_lines : bound_text (ascii "3") (ascii "004") (ascii "lines") ≡ ascii "reference 3 nodes 26 bytes\ndevice 4 nodes 27 bytes\nfirst failing test 11\n"
unfolding bound_text told_of size_of asked_of answered lent_reference lent_device bound_lines bytes_line bound_of bound_fault sizes_ok room_ok bound_reference bound_device reference_row device_row up_to encode encode_body encode_codes encode_rows encode_row encode_words four two number_line decimal decimal_in number_in few_digits all_digits digit_at is_digit value_from all same_text agree_at
small_lines = refl

-- p 32, q 32
large_lines : bound_text (ascii "32") (ascii "32") (ascii "lines") ≡ ascii "reference 32 nodes 229 bytes\ndevice 32 nodes 167 bytes\nfirst failing test 1023\n"
unfolding bound_text told_of size_of asked_of answered lent_reference lent_device bound_lines bytes_line bound_of bound_fault sizes_ok room_ok bound_reference bound_device reference_row device_row up_to encode encode_body encode_codes encode_rows encode_row encode_words four two number_line decimal decimal_in number_in few_digits all_digits digit_at is_digit value_from all same_text agree_at
large_lines = refl

-- p 1, q 1: 01's pair of loops
one_one : (bound_text (ascii "1") (ascii "1") (ascii "reference") ≡ only_zero) × (bound_text (ascii "1") (ascii "1") (ascii "device") ≡ only_one)
unfolding bound_text told_of size_of asked_of answered lent_reference lent_device reference_part device_part reference_after device_after bound_of bound_fault sizes_ok room_ok bound_reference bound_device reference_row device_row up_to encode encode_body encode_codes encode_rows encode_row encode_words four two number_in few_digits all_digits digit_at is_digit value_from all same_text agree_at only_zero only_one
one_one = (refl, refl)

-- 259, which is 3 in eight bits, and a word of four digits are no numbers of nodes
refused_words : (bound_text (ascii "259") (ascii "1") (ascii "lines") ≡ ascii "bound refused 30\n") × (bound_text (ascii "1") (ascii "0003") (ascii "device") ≡ [])
    × (bound_error (ascii "1") (ascii "0003") (ascii "device") ≡ ascii "bound refused 30\n") × (bound_error (ascii "1") (ascii "1") (ascii "Lines") ≡ ascii "bound_pair: WORD is reference, device or lines\n")
unfolding bound_text told_of bound_error said_of size_of asked_of answered lent_reference lent_device bound_lines refused_line device_part refusal_part bound_of bound_fault sizes_ok room_ok number_line decimal decimal_in number_in few_digits all_digits digit_at is_digit value_from all same_text agree_at
refused_words = (refl, refl, refl, refl)
