-- The text that `script_counts` prints, as a function of the word that it is started with and of its input. The input
-- is read as `compare` reads it: at most 4,096 bytes, two sheets back to back.
use Rattle.std.specs.Prelude.{List, ℕ}
use Rattle.sheet_spec.specs.declared.Sheet.{Sheet}
use Rattle.scripts_spec.specs.Scripts.{scripts_of}
use Rattle.words_spec.specs.Numbers.{number_in}
use Rattle.text_pair_spec.specs.Program.{pair_text}
use Rattle.script_counts_lines_spec.specs.Lines.{scripts_lines}

-- the L that a word is: one to five digits, up to 65,534; every other word counts as 65,535, which is refused with 20
unfoldable pub length_of : List ℕ → ℕ
length_of word = number_in 5 65534 word

-- the lines after those of two accepted sheets: how many scripts of so many events go where
unfoldable pub counted_lines : List ℕ → Sheet → Sheet → List ℕ
counted_lines word P Q = scripts_lines P.e (length_of word) (scripts_of P Q (length_of word))

-- the text of a word and an input: the lines of the two sheets, and after two accepted ones the counts
unfoldable pub scripts_text : List ℕ → List ℕ → List ℕ
scripts_text word = pair_text (counted_lines word)
