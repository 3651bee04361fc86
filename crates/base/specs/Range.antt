-- Tests over the numbers below a bound: some passes, all pass, the first that passes, and what each means.
use Rattle.std.specs.Prelude.{◌≡◌, Bool, true, false, ◌&&◌, ◌||◌, cond}
use Prim.Native.Nat.{ℕ, zero, suc, ◌<◌}

-- some number below the bound passes
unfoldable pub any : (ℕ → Bool) → ℕ → Bool
any f zero = false
any f (suc n) = any f n || f n

-- every number below the bound passes
unfoldable pub all : (ℕ → Bool) → ℕ → Bool
all f zero = true
all f (suc n) = all f n && f n

-- the least place where a test passes
abbrev pub Least : (ℕ → Bool) → ℕ → Type 0
Least f n = (f n ≡ true) × ((k : ℕ) → k < n → f k ≡ false)

-- the least number below n at which the test passes, or n
unfoldable pub first : (ℕ → Bool) → ℕ → ℕ
first f zero = zero
first f (suc n) = cond (f 0) 0 (suc (first (λ i. f (suc i)) n))
