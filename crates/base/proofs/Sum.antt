-- Nothing to believe: laws of what specs/Sum.antt defines.
use Rattle.std.specs.Prelude.{◌≡◌, refl, ℕ, zero, suc, ◌+◌, ◌*◌, ◌<◌}
use Rattle.std.proofs.Common.{sym, suc-mul, zero-mul, arith}
use Rattle.base.specs.Sum.{sum}

-- functions that agree below the bound have one sum
pub sum_ext : (f g : ℕ → ℕ) (n : ℕ) → ((i : ℕ) → i < n → f i ≡ g i) → sum f n ≡ sum g n
unfolding sum
sum_ext f g zero h = refl
sum_ext f g (suc n) h = rw (sum_ext f g n (λ i l. h i (omega arith)), h n (omega arith))

-- the sum of one number n times
pub sum_const : (f : ℕ → ℕ) (c n : ℕ) → ((i : ℕ) → i < n → f i ≡ c) → sum f n ≡ n * c
unfolding sum
sum_const f c zero h = sym (zero-mul c)
sum_const f c (suc n) h = rw (suc-mul n c, sum_const f c n (λ i l. h i (omega arith)), h n (omega arith))

-- the sum of two functions is the sum of their sums
pub sum_add : (f g h : ℕ → ℕ) (n : ℕ) → ((i : ℕ) → i < n → f i + g i ≡ h i) → sum f n + sum g n ≡ sum h n
unfolding sum
sum_add f g h zero e = refl
sum_add f g h (suc n) e = omega (arith, sum_add f g h n (λ i l. e i (omega arith)), e n (omega arith))
