-- Nothing to believe: cases. Texts of numbers, lines and sets.
use Rattle.std.specs.Prelude.{◌≡◌, refl, [], ◌∷◌, map}
use Rattle.std.proofs.Common.{arith}
use Rattle.base.specs.Gather.{gather, select}
use Rattle.events.specs.Bit.{bit}
use Rattle.events.specs.Sets.{has}
use Rattle.text_spec.specs.Lines.{ascii, decimal_in, decimal, number_line, sheet_line, event_list, trace_line}
use Rattle.events.specs.Lists.{events_in}
use Rattle.text_spec.specs.Sets.{members, set_words}
use Rattle.text_spec.proofs.DecimalLaws.{decimal_within}

-- texts of numbers of one to four digits
pub numbers_hold : map decimal (0 ∷ 9 ∷ 10 ∷ 99 ∷ 100 ∷ 1023 ∷ 1024 ∷ 4095 ∷ [])
    ≡ (ascii "0" ∷ ascii "9" ∷ ascii "10" ∷ ascii "99" ∷ ascii "100" ∷ ascii "1023" ∷ ascii "1024" ∷ ascii "4095" ∷ [])
unfolding decimal decimal_in
numbers_hold = refl

-- texts of long numbers: one of 18 digits, and the largest of 64 bits, of 20
pub long_hold : (decimal 184884258895036416 ≡ ascii "184884258895036416") × (decimal 18446744073709551615 ≡ ascii "18446744073709551615")
unfolding decimal_in
long_hold = (decimal_within 17 184884258895036416 (omega arith), decimal_within 19 18446744073709551615 (omega arith))

-- texts of sets: the empty one, one event, several, and all of 16 bits
pub sets_hold : map set_words (0 ∷ 1 ∷ 5 ∷ 2048 ∷ 65535 ∷ [])
    ≡ (ascii "0 ( )" ∷ ascii "1 ( 0 )" ∷ ascii "5 ( 0 2 )" ∷ ascii "2048 ( 11 )" ∷ ascii "65535 ( 0 1 2 3 4 5 6 7 8 9 10 11 12 13 14 15 )" ∷ [])
unfolding set_words members events_in select gather event_list decimal decimal_in has bit
sets_hold = refl

-- texts of lines
pub number_line_lem : number_line (ascii "device refused ") 7 ≡ ascii "device refused 7\n"
unfolding number_line decimal decimal_in
number_line_lem = refl

pub sheet_line_lem : sheet_line (ascii "reference ") 32 12 ≡ ascii "reference 32 nodes 12 events\n"
unfolding sheet_line decimal decimal_in
sheet_line_lem = refl

pub trace_line_lem : (trace_line (0 ∷ 11 ∷ 7 ∷ []) ≡ ascii "trace 0 11 7\n") × (trace_line [] ≡ ascii "trace\n")
unfolding trace_line event_list decimal decimal_in
trace_line_lem = (refl, refl)
