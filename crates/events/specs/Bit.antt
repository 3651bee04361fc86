-- Sets of events as numbers: event i is in X if binary digit i of X is 1. A digit is a number, 0 or 1, so that
-- inclusion is an order, a union a maximum and an intersection a minimum of digits.
use Rattle.std.specs.Prelude.{ℕ, zero, suc, ◌+◌, ◌/◌, ◌%◌, ◌^◌, ◌≤◌, Bool, cond}

-- digit i of X: 1 if event i is in X, else 0
unfoldable pub bit : ℕ → ℕ → ℕ
bit X i = X / 2 ^ i % 2

-- X is included in Y
abbrev pub Within : ℕ → ℕ → Type 0
Within X Y = (i : ℕ) → bit X i ≤ bit Y i

-- X and Y have no event in common
abbrev pub Apart : ℕ → ℕ → Type 0
Apart X Y = (i : ℕ) → bit X i + bit Y i ≤ 1

-- the set of the events below n that pass a test
unfoldable pub set_of : (ℕ → Bool) → ℕ → ℕ
set_of f zero = 0
set_of f (suc n) = set_of f n + cond (f n) (2 ^ n) 0
