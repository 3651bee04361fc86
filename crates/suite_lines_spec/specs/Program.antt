-- The text that `suite` prints, as a function of its input. The input is read as `compare` reads it: at most 4,096
-- bytes, two sheets back to back.
use Rattle.std.specs.Prelude.{false, List, ℕ, replicate}
use Rattle.sheet_spec.specs.declared.Sheet.{Sheet}
use Rattle.verdicts_spec.specs.Suites.{test_count, suite_of, verdicts_after}
use Rattle.text_pair_spec.specs.Program.{pair_text}
use Rattle.suite_lines_spec.specs.Lines.{suite_lines}

-- the list that the program lends for the verdicts: 1,024 bytes, which is enough for every two sheets
unfoldable pub verdict_list : List ℕ
verdict_list = replicate 1024 0

-- the list of verdicts after the call
abbrev pub after : Sheet → Sheet → List ℕ
after P Q = verdicts_after false P Q verdict_list

-- the lines after those of two accepted sheets: their tests, those with refusals
unfoldable pub judged_lines : Sheet → Sheet → List ℕ
judged_lines P Q = suite_lines (test_count P Q) (suite_of P Q verdict_list) (verdicts_after false P Q verdict_list)

-- the text of an input: the lines of the two sheets, and after two accepted ones the verdicts of their tests
unfoldable pub suite_text : List ℕ → List ℕ
suite_text = pair_text judged_lines
