-- The lines that `keypad_check` prints after that of an accepted sheet, as the codes of their characters.
use Rattle.std.specs.Prelude.{List, [], ◌++◌, ℕ, Result, Ok, Err}
use Rattle.text_spec.specs.Lines.{ascii, decimal, number_line, numbers_text}
use Rattle.keypad_spec.specs.declared.Keypad.{Keypad}
use Rattle.keypad_spec.specs.declared.Keypad.TheVariants.{Good, Gap, Overlap}
use Rattle.keypad_spec.specs.declared.Found.{Found}
use Rattle.keypad_spec.specs.declared.Found.TheVariants.{Event, Gap as GapFound, Overlap as OverlapFound}

-- the line of a table's size: `table n rules`
unfoldable pub rules_line : ℕ → List ℕ
rules_line n = ascii "table " ++ (decimal n ++ ascii " rules\n")

-- the line of an overlap: `overlap c by i and k`
unfoldable pub overlap_line : ℕ → ℕ → ℕ → List ℕ
overlap_line c i k = ascii "overlap " ++ (decimal c ++ numbers_text (ascii " by ") i (ascii " and ") k (ascii "\n"))

-- the lines of what a check answers for a table of n rules: its size, and whether it is good; or the refusal alone
unfoldable pub told_lines : ℕ → Result Keypad ℕ → List ℕ
told_lines n (Ok Good) = rules_line n ++ ascii "good\n"
told_lines n (Ok (Gap c)) = rules_line n ++ number_line (ascii "gap ") c
told_lines n (Ok (Overlap c i k)) = rules_line n ++ overlap_line c i k
told_lines n (Err m) = number_line (ascii "table refused ") m

-- the line of what a lookup of the code c answers: `code c event e`; where it is no event, the check has told why
unfoldable pub found_line : ℕ → Result Found ℕ → List ℕ
found_line c (Ok (Event e)) = numbers_text (ascii "code ") c (ascii " event ") e (ascii "\n")
found_line c (Ok (GapFound d)) = []
found_line c (Ok (OverlapFound d i k)) = []
found_line c (Err m) = []
