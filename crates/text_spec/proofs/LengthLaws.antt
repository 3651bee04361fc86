-- Nothing to believe: laws. How long lines are, by the digits of their numbers.
use Rattle.std.specs.Prelude.{◌≡◌, refl, Bool, true, false, List, ◌++◌, ℕ, zero, suc, ◌+◌, ◌*◌, ◌^◌, ◌≤◌, ◌<◌, length}
use Rattle.std.proofs.Common.{arith, length-append}
use Rattle.base.specs.Gather.{gather, select}
use Rattle.events.specs.Sets.{has}
use Rattle.events.specs.Lists.{events_in}
use Rattle.text_spec.specs.Lines.{ascii, decimal, number_line, sheet_line, event_list, trace_line}
use Rattle.text_spec.specs.Sets.{members, set_words}
use Rattle.text_spec.proofs.DecimalLaws.{decimal_few}
use Rattle.text_spec.proofs.SetLaws.{members_more, members_same}

-- the length of a line of some words and a number
pub number_length : (words : List ℕ) (k n : ℕ) → n < 10 ^ suc k → length (number_line words n) ≤ length words + suc k + 1
unfolding number_line
number_length words k n h = omega (arith, length-append words (decimal n ++ ascii "\n"), length-append (decimal n) (ascii "\n"), decimal_few k n h)

-- the length of the line of an accepted sheet
pub sheet_length : (who : List ℕ) (n e : ℕ) → n < 100 → e < 100 → length (sheet_line who n e) ≤ length who + 19
unfolding sheet_line
sheet_length who n e h k =
    omega (
      arith,
      length-append who (decimal n ++ (ascii " nodes " ++ (decimal e ++ ascii " events\n"))),
      length-append (decimal n) (ascii " nodes " ++ (decimal e ++ ascii " events\n")),
      length-append (ascii " nodes ") (decimal e ++ ascii " events\n"),
      length-append (decimal e) (ascii " events\n"),
      decimal_few 1 n h,
      decimal_few 1 e k,
    )

-- the length of the events of a set, each of at most two digits
pub events_length : (x n : ℕ) → n ≤ 100 → length (event_list (events_in x n)) ≤ 3 * n
unfolding event_list events_in select gather
events_length x zero h = omega arith
events_length x (suc n) h = go (has x n) refl (events_length x n (omega arith))
  where
    go : (b : Bool) → has x n ≡ b → length (event_list (events_in x n)) ≤ 3 * n → length (event_list (events_in x (suc n))) ≤ 3 * suc n
    go true e ih = rw (members_more x n e, length-append (event_list (events_in x n)) (ascii " " ++ decimal n)) (omega (arith, decimal_few 1 n (omega arith)))
    go false e ih = rw (members_same x n e) (omega arith)

-- the line of a trace
pub trace_length : (t : List ℕ) → length (trace_line t) ≡ length (event_list t) + 6
unfolding trace_line
trace_length t = omega (arith, length-append (ascii "trace") (event_list t ++ ascii "\n"), length-append (event_list t) (ascii "\n"))

-- the length of the words of a set of 16 bits
pub set_length : (x : ℕ) → x < 100000 → length (set_words x) ≤ 57
unfolding set_words members
set_length x h =
    omega (
      arith,
      length-append (decimal x) (ascii " (" ++ (event_list (events_in x 16) ++ ascii " )")),
      length-append (ascii " (") (event_list (events_in x 16) ++ ascii " )"),
      length-append (event_list (events_in x 16)) (ascii " )"),
      decimal_few 4 x h,
      events_length x 16 (omega arith),
    )
