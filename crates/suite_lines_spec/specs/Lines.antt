-- The lines that `suite` prints after the two sheets, as the codes of their characters. A list of verdicts has at place
-- k the number of test k's: 11 for "passes", 12 for "fails".
use Rattle.std.specs.Prelude.{cond, List, ◌++◌, ℕ, ◌-◌, eqb, get_or, Result, Ok, Err}
use Rattle.base.specs.Count.{count}
use Rattle.base.specs.Joined.{joined}
use Rattle.text_spec.specs.Lines.{ascii, decimal, number_line}
use Rattle.verdicts_spec.specs.Numbers.{passes_number}

-- the line of a test: `test k passes`, where the verdict's number is that of "passes", or `test k fails`
unfoldable pub test_line : ℕ → ℕ → List ℕ
test_line k verdict = ascii "test " ++ (decimal k ++ cond (eqb verdict passes_number) (ascii " passes\n") (ascii " fails\n"))

-- the lines of the first n tests, in order
unfoldable pub test_lines : List ℕ → ℕ → List ℕ
test_lines verdicts n = joined (λ k. test_line k (get_or verdicts k 0)) n

-- how many of the first n tests pass
unfoldable pub passed_of : List ℕ → ℕ → ℕ
passed_of verdicts n = count (λ k. eqb (get_or verdicts k 0) passes_number) n

-- how the last line ends: ` all pass` only if as many passed as there are tests, else ` failed f`
unfoldable pub last_words : ℕ → ℕ → ℕ → List ℕ
last_words total run passed = cond (eqb passed total) (ascii " all pass\n") (number_line (ascii " failed ") (run - passed))

-- the last line: how many tests there are, how many were run, and whether all passed
unfoldable pub last_line : ℕ → ℕ → ℕ → List ℕ
last_line total run passed = ascii "tests " ++ (decimal total ++ (ascii " run " ++ (decimal run ++ last_words total run passed)))

-- the lines of an answer, where there are so many tests: a line for each that was run, and the last line; or the
-- refusal
unfoldable pub suite_lines : ℕ → Result ℕ ℕ → List ℕ → List ℕ
suite_lines total (Ok n) verdicts = test_lines verdicts n ++ last_line total n (passed_of verdicts n)
suite_lines total (Err k) verdicts = number_line (ascii "suite refused ") k
