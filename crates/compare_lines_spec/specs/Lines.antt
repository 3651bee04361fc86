-- The lines that `compare` prints (01, "The program `compare`"), as the codes of their characters.
use Rattle.std.specs.Prelude.{List, ◌++◌, ℕ, take, Result, Ok, Err}
use Rattle.text_spec.specs.Lines.{ascii, number_line, numbers_text, trace_line}
use Rattle.comparison_spec.specs.declared.Outcome.{Outcome}
use Rattle.comparison_spec.specs.declared.Outcome.TheVariants.{Refines, Stray, Refusal}

-- the first line of a violation: `violates after d cleared c`
unfoldable pub violates_line : ℕ → ℕ → List ℕ
violates_line d cleared = numbers_text (ascii "violates after ") d (ascii " cleared ") cleared (ascii "\n")

-- the line of a refusal: `refused x by a`, the probe and the acceptance as numbers
unfoldable pub refused_probe_line : ℕ → ℕ → List ℕ
refused_probe_line probe acceptance = numbers_text (ascii "refused ") probe (ascii " by ") acceptance (ascii "\n")

-- the lines of a comparison's answer; the trace is the first d bytes of the trace list
unfoldable pub outcome_lines : Result Outcome ℕ → List ℕ → List ℕ
outcome_lines (Ok (Refines cleared)) trace = number_line (ascii "refines cleared ") cleared
outcome_lines (Ok (Stray d cleared event)) trace = violates_line d cleared ++ (trace_line (take d trace) ++ number_line (ascii "stray ") event)
outcome_lines (Ok (Refusal d cleared probe acceptance)) trace = violates_line d cleared ++ (trace_line (take d trace) ++ refused_probe_line probe acceptance)
outcome_lines (Err k) trace = number_line (ascii "comparison refused ") k
