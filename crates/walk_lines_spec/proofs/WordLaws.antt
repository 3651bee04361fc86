-- Nothing to believe: laws. Which words are a seed and which a wished length, and which number each is; every other
-- word is none.
use Rattle.std.specs.Prelude.{◌≡◌, ◌⊎◌, ◌↔◌, ◌≢◌, List, ℕ, ◌≤◌, ◌<◌}
use Rattle.std.proofs.Common.{sym, ◌∙◌, inl, inr, arith}
use borrow.Author.Tests.{le-leb, lt-leb}
use Rattle.base.proofs.Truth.{lt_or_ge}
use Rattle.text_spec.specs.Lines.{decimal, value_from}
use Rattle.words_spec.specs.Numbers.{Digits, number_in}
use Rattle.words_spec.proofs.NumberLaws.{number_is, number_from, number_most, number_decimal}
use Rattle.walk_lines_spec.specs.Program.{seed_of, wish_of}
use Rattle.walk_lines_spec.specs.Says.{IsSeed, IsWish}

module _ (word : List ℕ) where
  -- digits below 2 to the power 32 are the seed that they write
  seed_digits : Digits 10 word → value_from 0 word ≤ 4294967295 → seed_of word ≡ value_from 0 word
  unfolding seed_of
  seed_digits d l = let e = number_is 10 word 4294967295 d l in rw (e, le-leb (value_from 0 word) 4294967295 l)

  -- no other seed than 0 comes from another word
  seed_from : seed_of word ≢ 0 → Digits 10 word × ((value_from 0 word ≤ 4294967295) × (seed_of word ≡ value_from 0 word))
  unfolding seed_of
  seed_from n = go (lt_or_ge 4294967295 (number_in 10 4294967295 word))
    where
      go : (4294967295 < number_in 10 4294967295 word) ⊎ (number_in 10 4294967295 word ≤ 4294967295)
          → Digits 10 word × ((value_from 0 word ≤ 4294967295) × (seed_of word ≡ value_from 0 word))
      go (inl l) = absurd (n (rw (lt-leb (number_in 10 4294967295 word) 4294967295 l)))
      go (inr l) =
          let w = number_from 10 word 4294967295 l in
          let k : value_from 0 word ≤ 4294967295 = omega (arith, l, w.1) in
          (w.0, (k, seed_digits w.0 k))

  -- a word is a seed exactly if it counts as one other than 0, and then it is the number that it writes
  pub seed_means : (seed_of word ≢ 0) ↔ IsSeed word
  seed_means = (
    λ n. let w = seed_from n in (w.0, (omega (arith, n, w.1.1), w.1.0)),
    λ w e. omega (arith, e, seed_digits w.0 w.1.1, w.1.0),
  )

  pub seed_is : IsSeed word → seed_of word ≡ value_from 0 word
  seed_is w = seed_digits w.0 w.1.1

  -- each seed other than 0 exactly for the digits that write it; every other word counts as 0
  pub seed_word : (n : ℕ) → n ≢ 0 → (seed_of word ≡ n) ↔ (Digits 10 word × ((value_from 0 word ≤ 4294967295) × (value_from 0 word ≡ n)))
  seed_word n k = (
    λ e. let w = seed_from (λ z. k (sym e ∙ z)) in (w.0, (w.1.0, sym w.1.1 ∙ e)),
    λ w. seed_digits w.0 w.1.0 ∙ w.1.1,
  )

  pub no_seed : ¬ (Digits 10 word × (value_from 0 word ≤ 4294967295)) → seed_of word ≡ 0
  no_seed n = go (lt_or_ge 0 (seed_of word))
    where
      go : (0 < seed_of word) ⊎ (seed_of word ≤ 0) → seed_of word ≡ 0
      go (inl l) = absurd (let w = seed_from (λ e. omega (arith, l, e)) in n (w.0, w.1.0))
      go (inr l) = omega arith

  -- every seed is below 2 to the power 32
  pub seed_small : seed_of word < 4294967296
  seed_small = go (lt_or_ge 0 (seed_of word))
    where
      go : (0 < seed_of word) ⊎ (seed_of word ≤ 0) → seed_of word < 4294967296
      go (inl l) = let w = seed_from (λ e. omega (arith, l, e)) in omega (arith, w.1.0, w.1.1)
      go (inr l) = omega (arith, l)

  -- a word is a wished length exactly if it counts as one up to 4,096, and then it is the number that it writes
  pub wish_is : IsWish word → wish_of word ≡ value_from 0 word
  unfolding wish_of
  wish_is w = number_is 5 word 65534 w.0 (omega (arith, w.1))

  pub wish_means : (wish_of word ≤ 4096) ↔ IsWish word
  unfolding wish_of
  wish_means = (λ l. let w = number_from 5 word 65534 (omega (arith, l)) in (w.0, omega (arith, l, w.1)), λ w. omega (arith, wish_is w, w.1))

  -- each length up to 65,534 exactly for the digits that write it; every other word counts as 65,535
  pub wish_word : (n : ℕ) → n ≤ 65534 → (wish_of word ≡ n) ↔ (Digits 5 word × (value_from 0 word ≡ n))
  unfolding wish_of
  wish_word n l = (
    λ e. let w = number_from 5 word 65534 (omega (arith, e)) in (w.0, w.1 ∙ e),
    λ w. number_is 5 word 65534 w.0 (omega (arith, w.1)) ∙ w.1,
  )

  pub no_wish : ¬ (Digits 5 word × (value_from 0 word ≤ 65534)) → wish_of word ≡ 65535
  unfolding wish_of
  no_wish n = go (lt_or_ge 65534 (wish_of word))
    where
      go : (65534 < wish_of word) ⊎ (wish_of word ≤ 65534) → wish_of word ≡ 65535
      go (inl l) = omega (arith, l, number_most 5 word 65534)
      go (inr l) = absurd (let w = number_from 5 word 65534 l in n (w.0, omega (arith, l, w.1)))

  -- every wished length fits in 16 bits
  pub wish_small : wish_of word < 65536
  unfolding wish_of
  wish_small = omega (arith, number_most 5 word 65534)

-- a number in base ten is the word of that seed, and of that wished length
pub seed_decimal : (n : ℕ) → n ≤ 4294967295 → seed_of (decimal n) ≡ n
unfolding seed_of
seed_decimal n l = let e = number_decimal 9 4294967295 n (omega arith) l in rw (e, le-leb n 4294967295 l)

pub wish_decimal : (n : ℕ) → n ≤ 65534 → wish_of (decimal n) ≡ n
unfolding wish_of
wish_decimal n l = number_decimal 4 65534 n (omega arith) l
