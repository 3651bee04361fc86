-- Nothing to believe: laws. The size of a set is how many events it has, as a list of them; it is the number of its
-- binary ones, which the machine counts, and a set of events below k has at most k.
use Rattle.std.specs.Prelude.{◌≡◌, refl, ◌⊎◌, true, false, cond, ℕ, zero, suc, ◌+◌, ◌/◌, ◌%◌, ◌^◌, ◌≤◌, ◌<◌}
use Rattle.std.proofs.Common.{sym, ap, ◌∙◌, inl, inr, arith, pow_mono}
use Rattle.std.specs.Int.Count.{ones, ones_step}
use Rattle.std.proofs.lemmas.Nat.{ones-le}
use Rattle.base.proofs.Truth.{dec, lt_or_ge}
use Rattle.base.specs.Count.{count}
use Rattle.base.proofs.Count.{count_le}
use Rattle.base.specs.Counted.{Counted}
use Rattle.base.proofs.CountedLaws.{counted_as, counted_unique, count_means}
use Rattle.events.specs.Bit.{bit}
use Rattle.events.proofs.Bit.{bit·zero, bit·suc, bit_high}
use Rattle.events.specs.Sets.{has}
use Rattle.events.proofs.Sets.{has→, has←, has_not}
use Rattle.events.specs.Size.{size}

-- a set of 16 bits has just as many events as its size says
pub size_means : (X : ℕ) → X < 65536 → Counted (λ i. bit X i ≡ 1) (size X)
unfolding size
size_means X l = counted_as (λ i. ((λ w. w.1), λ b. (below i b (lt_or_ge i 16), b))) ((count_means (has X) 16 (size X) (λ i k. (has→ X i, has← X i))).0 refl)
  where
    below : (i : ℕ) → bit X i ≡ 1 → (i < 16) ⊎ (16 ≤ i) → i < 16
    below i b (inl h) = h
    below i b (inr h) = absurd (omega (arith, b, bit_high 16 i X l h))

-- and no other number of them
pub size_only : (X n : ℕ) → X < 65536 → Counted (λ i. bit X i ≡ 1) n → n ≡ size X
size_only X n l c = counted_unique c (size_means X l)

digit : (X i : ℕ) → cond (has X i) 1 0 ≡ bit X i
digit X i = go (dec (has X i))
  where
    go : (has X i ≡ true) ⊎ (has X i ≡ false) → cond (has X i) 1 0 ≡ bit X i
    go (inl t) = rw t (sym (has→ X i t))
    go (inr t) = rw t (sym (has_not X i t))

-- the events from the lowest on: the lowest digit, and the count of the rest
count_low : (X n : ℕ) → count (has X) (suc n) ≡ X % 2 + count (has (X / 2)) n
unfolding count
count_low X zero = rw (digit X 0) (omega (arith, bit·zero X))
count_low X (suc n) = omega (arith, count_low X n, digit X (suc n), digit (X / 2) n, bit·suc X n)

count_ones : (k X : ℕ) → X < 2 ^ k → ones X ≡ count (has X) k
count_ones zero X l = let z : X ≡ 0 = omega arith in rw z (unfold ones count in refl)
count_ones (suc k) X l = ones_step X ∙ ap (λ (n : ℕ). X % 2 + n) (count_ones k (X / 2) (omega arith)) ∙ sym (count_low X k)

-- the size is the number of binary ones
pub size_ones : (X : ℕ) → X < 65536 → ones X ≡ size X
unfolding size
size_ones X l = count_ones 16 X l

-- a set of events below k has at most k
pub size_few : (k X : ℕ) → X < 2 ^ k → size X ≤ k
unfolding size
size_few k X h = go (lt_or_ge k 16)
  where
    go : (k < 16) ⊎ (16 ≤ k) → size X ≤ k
    go (inl l) = let b : k ≤ 16 = omega arith in let w : 2 ^ k ≤ 2 ^ 16 = pow_mono b in omega (arith, ones-le k X h, count_ones 16 X (omega arith))
    go (inr l) = omega (arith, count_le (has X) 16)
