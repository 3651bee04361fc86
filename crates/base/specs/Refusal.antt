-- Refusal numbers, picked by tests in their order: the first rule that is broken gives its number.
use Rattle.std.specs.Prelude.{Bool, true, false, ℕ, zero, suc}

-- the number of a refusal where a rule is broken, else what follows
abbrev pub unless : Bool → ℕ → ℕ → ℕ
unless true k r = r
unless false k r = k

-- a refusal's number, or where there is none (0), what follows
abbrev pub or_else : ℕ → ℕ → ℕ
or_else zero r = r
or_else (suc k) r = suc k
