-- Nothing to believe: laws of what specs/Count.antt defines.
use Rattle.std.specs.Prelude.{◌≡◌, refl, ◌⊎◌, Bool, true, false, cond, ℕ, zero, suc, ◌+◌, ◌≤◌, ◌<◌}
use Rattle.std.proofs.Common.{inl, inr, arith, eq-or-lt_of_le}
use Rattle.base.specs.Count.{count}

-- no more numbers below n pass a test than there are
pub count_le : (f : ℕ → Bool) (n : ℕ) → count f n ≤ n
unfolding count
count_le f zero = omega arith
count_le f (suc n) = go (f n) (count_le f n)
  where
    go : (b : Bool) → count f n ≤ n → count f n + cond b 1 0 ≤ suc n
    go true h = omega arith
    go false h = omega arith

-- as many numbers pass as there are below n exactly if each of them passes
pub count_all→ : (f : ℕ → Bool) (n : ℕ) → count f n ≡ n → (i : ℕ) → i < n → f i ≡ true
unfolding count
count_all→ f zero z i l = absurd (omega arith)
count_all→ f (suc n) z i l = go (f n) refl (eq-or-lt_of_le l) (count_all→ f n)
  where
    go : (b : Bool) → f n ≡ b → (suc i ≡ suc n) ⊎ (suc i < suc n) → (count f n ≡ n → (i : ℕ) → i < n → f i ≡ true) → f i ≡ true
    go true e (inl h) ih = let q : i ≡ n = omega arith in rw q e
    go true e (inr h) ih = ih (omega (arith, rw e at z)) i (omega arith)
    go false e h ih = absurd (omega (arith, rw e at z, count_le f n))

pub count_all← : (f : ℕ → Bool) (n : ℕ) → ((i : ℕ) → i < n → f i ≡ true) → count f n ≡ n
unfolding count
count_all← f zero h = refl
count_all← f (suc n) h = rw (h n (omega arith), count_all← f n (λ i l. h i (omega arith))) (omega arith)

-- tests that pass the same numbers below n have one count
pub count_same : (f g : ℕ → Bool) (n : ℕ) → ((i : ℕ) → i < n → f i ≡ g i) → count f n ≡ count g n
unfolding count
count_same f g zero h = refl
count_same f g (suc n) h = rw (h n (omega arith), count_same f g n (λ i l. h i (omega arith)))
