-- The text that `compare` prints, as a function of its input (01, "The program `compare`").
use Rattle.std.specs.Prelude.{false, List, ◌++◌, ℕ, ◌-◌, length, replicate}
use Rattle.sheet_spec.specs.declared.Sheet.{Sheet}
use Rattle.comparison_spec.specs.Comparison.{outcome_of, trace_after}
use Rattle.text_pair_spec.specs.Program.{pair_text}
use Rattle.compare_lines_spec.specs.declared.Text.{Text}
use Rattle.compare_lines_spec.specs.Lines.{outcome_lines}

-- the work list that the program lends to the comparison: 2,048 words, enough for every two sheets
unfoldable pub work_list : List ℕ
work_list = replicate 2048 0

-- the trace list that the program lends to the comparison: 1,023 bytes, enough for every two sheets
unfoldable pub trace_list : List ℕ
trace_list = replicate 1023 0

-- the lines after those of two accepted sheets: what their comparison answers
unfoldable pub compared_lines : Sheet → Sheet → List ℕ
compared_lines P Q = outcome_lines (outcome_of false P Q work_list trace_list) (trace_after false P Q work_list trace_list)

-- the text of an input: the lines of the two sheets, and after two accepted ones what their comparison answers
unfoldable pub compare_text : List ℕ → List ℕ
compare_text = pair_text compared_lines

-- a text as it is kept: its bytes, 0 up to 4,096, and their number
unfoldable pub kept_text : List ℕ → Text
kept_text t = record { bytes = t ++ replicate (4096 - length t) 0; len = length t }
