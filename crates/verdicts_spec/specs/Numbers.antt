-- The numbers of a verdict and of the answer for all tests. Of a refusal every other part is 0.
use Rattle.std.specs.Prelude.{ℕ, Result, Ok, Err}
use Rattle.verdicts_spec.specs.declared.Verdict.{Verdict}
use Rattle.verdicts_spec.specs.declared.Verdict.TheVariants.{Passes, Fails}

-- the number of the verdict "passes": the first of the ten that verdicts have
abbrev pub passes_number : ℕ
passes_number = 11

-- the number of the verdict "fails"
abbrev pub fails_number : ℕ
fails_number = 12

-- what a verdict says in numbers
pub record Judgement : Type 0 where
  -- the number of the refusal, 0 for none
  pub refusal : ℕ
  -- 0 for a refusal, else the number of the verdict
  pub kind : ℕ

-- the numbers of a verdict: its own, or its refusal's
unfoldable pub judged : Result Verdict ℕ → Judgement
judged (Err m) = record { refusal = m; kind = 0 }
judged (Ok Passes) = record { refusal = 0; kind = passes_number }
judged (Ok Fails) = record { refusal = 0; kind = fails_number }

-- the numbers of an answer for all tests: the refusal's, 0 for none; how many tests were judged
pub record Suited : Type 0 where
  pub refusal : ℕ
  pub count : ℕ

-- the numbers of the answer for all tests
unfoldable pub suited : Result ℕ ℕ → Suited
suited (Ok n) = record { refusal = 0; count = n }
suited (Err m) = record { refusal = m; count = 0 }
