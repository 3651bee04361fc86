-- The text that `walk` prints, as a function of the two words that it is started with and of its input. The input is
-- read as `show` reads it: at most 4,096 bytes, one sheet.
use Rattle.std.specs.Prelude.{cond, List, [], ◌++◌, ℕ, eqb, leb, replicate}
use Rattle.sheet_spec.specs.declared.Sheet.{Sheet}
use Rattle.sheet_spec.specs.declared.ReadSheet.{ReadSheet}
use Rattle.sheet_spec.specs.Reading.{read_sheet}
use Rattle.load_spec.specs.Calls.{walked_of, walk_after}
use Rattle.text_spec.specs.Input.{cut_input}
use Rattle.words_spec.specs.Numbers.{number_in}
use Rattle.text_sheet_spec.specs.Head.{head_line}
use Rattle.walk_lines_spec.specs.Lines.{walk_lines}

-- the seed that a word is: one to ten digits, up to 4,294,967,295; every other word counts as 0, which is refused with
-- 27
unfoldable pub seed_of : List ℕ → ℕ
seed_of word = cond (leb (number_in 10 4294967295 word) 4294967295) (number_in 10 4294967295 word) 0

-- the wished length that a word is: one to five digits, up to 65,534; every other word counts as 65,535, which is
-- refused with 28
unfoldable pub wish_of : List ℕ → ℕ
wish_of word = number_in 5 65534 word

-- the list that the program lends: 4,096 places
unfoldable pub lent : List ℕ
lent = replicate 4096 0

-- the lines after an accepted sheet's, for a seed and a wished length
unfoldable pub walked_lines : ℕ → ℕ → Sheet → List ℕ
walked_lines seed wish s = walk_lines wish (walked_of s seed wish lent) (walk_after s seed wish lent)

-- all lines for a sheet as it was read: a bad sheet prints only its refusal
unfoldable pub read_lines : ℕ → ℕ → ReadSheet → List ℕ
read_lines seed wish a = head_line a ++ cond (eqb a.refusal 0) (walked_lines seed wish a.sheet) []

-- the text for two words and any input, of which no more than 4,096 bytes count
unfoldable pub walk_text : List ℕ → List ℕ → List ℕ → List ℕ
walk_text seed wish input = read_lines (seed_of seed) (wish_of wish) (read_sheet (cut_input input))
