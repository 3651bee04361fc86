-- The numbers below n that pass a test, in a list: what stands in it, and where. A loop that counts the numbers up
-- makes it from the front.
use Rattle.std.specs.Prelude.{Bool, cond}
use mathlib.Core.List.{List, [], ◌∷◌, ◌++◌}
use Prim.Native.Nat.{ℕ, zero, suc}

-- what f gives for each number below n that passes the test, in the order of the numbers
unfoldable pub gather : (ℕ → Bool) → (ℕ → ℕ) → ℕ → List ℕ
gather p f zero = []
gather p f (suc n) = gather p f n ++ cond (p n) (f n ∷ []) []

-- the numbers below n that pass the test, ascending
unfoldable pub select : (ℕ → Bool) → ℕ → List ℕ
select p n = gather p (λ x. x) n
