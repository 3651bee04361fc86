-- The text that `keypad_check` prints, as a function of the words that it is started with and of its input. The input
-- is read as `compare` reads it: at most 4,096 bytes, first a sheet; the bytes after it are the table.
use Rattle.std.specs.Prelude.{◌&&◌, cond, List, [], ◌++◌, ℕ, eqb, leb}
use Rattle.sheet_spec.specs.declared.Sheet.{Sheet}
use Rattle.sheet_spec.specs.declared.ReadSheet.{ReadSheet}
use Rattle.sheet_spec.specs.Reading.{read_sheet}
use Rattle.keypad_spec.specs.Tables.{rule_count}
use Rattle.keypad_spec.specs.Calls.{keypad_of, found_of}
use Rattle.text_spec.specs.Input.{cut_input}
use Rattle.words_spec.specs.Numbers.{number_in}
use Rattle.text_sheet_spec.specs.Head.{head_line}
use Rattle.text_pair_spec.specs.Split.{first_sheet, second_sheet}
use Rattle.keypad_check_lines_spec.specs.declared.AskedCode.{AskedCode}
use Rattle.keypad_check_lines_spec.specs.declared.AskedCode.TheVariants.{Nothing, Code, Wrong}
use Rattle.keypad_check_lines_spec.specs.Lines.{told_lines, found_line}

-- the code that a word is: one to five digits, up to 255; every other word counts as 256, which is no code
unfoldable pub word_code : List ℕ → ℕ
word_code word = number_in 5 255 word

-- what the program is asked for, by how many words it is started with, and the word where there is one
unfoldable pub asked_of : ℕ → List ℕ → AskedCode
asked_of count word = cond (eqb count 0) Nothing (cond (eqb count 1 && leb (word_code word) 255) (Code (word_code word)) Wrong)

-- the line of the code that is asked for, if one is
unfoldable pub asked_line : AskedCode → Sheet → List ℕ → List ℕ
asked_line Nothing s b = []
asked_line (Code c) s b = found_line c (found_of s b c)
asked_line Wrong s b = []

-- the lines of a table b, after an accepted sheet's
unfoldable pub table_lines : AskedCode → Sheet → List ℕ → List ℕ
table_lines asked s b = told_lines (rule_count b) (keypad_of s b) ++ asked_line asked s b

-- all lines for a sheet as it was read and a table: a bad sheet prints only its refusal
unfoldable pub read_lines : AskedCode → ReadSheet → List ℕ → List ℕ
read_lines asked a b = head_line a ++ cond (eqb a.refusal 0) (table_lines asked a.sheet b) []

-- all lines for an input that is not too long: the sheet, and the table after it
unfoldable pub input_lines : AskedCode → List ℕ → List ℕ
input_lines asked input = read_lines asked (read_sheet (first_sheet input)) (second_sheet input)

-- the text for any input, of which no more than 4,096 bytes count; wrong use has none
unfoldable pub keypad_text : AskedCode → List ℕ → List ℕ
keypad_text Nothing input = input_lines Nothing (cut_input input)
keypad_text (Code c) input = input_lines (Code c) (cut_input input)
keypad_text Wrong input = []
