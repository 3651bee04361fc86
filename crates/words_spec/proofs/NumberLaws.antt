-- Nothing to believe: laws. Which bytes are a number, and which number they are: exactly the digits of a number that is
-- not too large.
use Rattle.std.specs.Prelude.{◌≡◌, ◌⊎◌, ◌≢◌, Bool, ◌&&◌, cond, List, ℕ, suc, ◌+◌, ◌^◌, ◌≤◌, ◌<◌, length, get_or}
use Rattle.std.proofs.Math.Path.{refl}
use Rattle.std.proofs.Common.{sym, ◌∙◌, arith}
use Rattle.std.proofs.Math.Logic.{inl, inr}
use Rattle.std.proofs.Math.Bool.{true, false}
use Rattle.std.proofs.Math.Dec.{leb}
use borrow.Author.Tests.{leb-true, le-leb}
use Rattle.base.proofs.Truth.{and_l, and_r, and_i}
use Rattle.base.proofs.Range.{all→, all←}
use Rattle.text_spec.specs.Lines.{decimal, value_from}
use Rattle.text_spec.proofs.DecimalLaws.{decimal_value, decimal_some, decimal_few, decimal_digits}
use Rattle.words_spec.specs.Numbers.{is_digit, digit_at, all_digits, few_digits, number_in, number_of, Digits}

-- the codes of digits are 48 to 57
pub digit→ : (b : ℕ) → is_digit b ≡ true → (48 ≤ b) × (b < 58)
unfolding is_digit
digit→ b h = (leb-true 48 b (and_l (leb 48 b) (leb b 57) h), omega (arith, leb-true b 57 (and_r (leb 48 b) (leb b 57) h)))

pub digit← : (b : ℕ) → (48 ≤ b) × (b < 58) → is_digit b ≡ true
unfolding is_digit
digit← b h = and_i (le-leb 48 b h.0) (le-leb b 57 (omega (arith, h.1)))

module _ (most : ℕ) (bytes : List ℕ) where
  -- the test `few_digits` passes exactly for one to `most` digits
  pub digits→ : few_digits most bytes ≡ true → Digits most bytes
  unfolding few_digits all_digits digit_at
  digits→ h =
      let r = and_r (leb 1 (length bytes)) (leb (length bytes) most && all_digits bytes) h in
      record {
        some = leb-true 1 (length bytes) (and_l (leb 1 (length bytes)) (leb (length bytes) most && all_digits bytes) h);
        few = leb-true (length bytes) most (and_l (leb (length bytes) most) (all_digits bytes) r);
        each = λ i l. digit→ (get_or bytes i 0) (all→ (digit_at bytes) (length bytes) i (and_r (leb (length bytes) most) (all_digits bytes) r) l);
      }

  pub digits← : Digits most bytes → few_digits most bytes ≡ true
  unfolding few_digits all_digits digit_at
  digits← d =
      and_i (le-leb 1 (length bytes) d.some)
      (and_i (le-leb (length bytes) most d.few) (all← (digit_at bytes) (length bytes) (λ i l. digit← (get_or bytes i 0) (d.each i l))))

  module _ (top : ℕ) where
    -- digits whose value is not above `top` are that number
    pub number_is : Digits most bytes → value_from 0 bytes ≤ top → number_in most top bytes ≡ value_from 0 bytes
    unfolding number_in
    number_is d l = rw (digits← d, le-leb (value_from 0 bytes) top l)

    number_cases : (number_in most top bytes ≡ top + 1) ⊎ (Digits most bytes × ((value_from 0 bytes ≤ top) × (number_in most top bytes ≡ value_from 0 bytes)))
    unfolding number_in
    number_cases = go (few_digits most bytes && leb (value_from 0 bytes) top) refl
      where
        go : (b : Bool) → (few_digits most bytes && leb (value_from 0 bytes) top) ≡ b
            → (cond b (value_from 0 bytes) (top + 1) ≡ top + 1) ⊎ (Digits most bytes × ((value_from 0 bytes ≤ top) × (cond b (value_from 0 bytes) (top + 1) ≡ value_from 0 bytes)))
        go true h =
            inr (digits→ (and_l (few_digits most bytes) (leb (value_from 0 bytes) top) h), (leb-true (value_from 0 bytes) top (and_r (few_digits most bytes) (leb (value_from 0 bytes) top) h), refl))
        go false h = inl refl

    -- a number that is not above `top` comes from its digits only
    pub number_from : number_in most top bytes ≤ top → Digits most bytes × (value_from 0 bytes ≡ number_in most top bytes)
    number_from l = go number_cases
      where
        go : (number_in most top bytes ≡ top + 1) ⊎ (Digits most bytes × ((value_from 0 bytes ≤ top) × (number_in most top bytes ≡ value_from 0 bytes)))
            → Digits most bytes × (value_from 0 bytes ≡ number_in most top bytes)
        go (inl e) = absurd (omega arith)
        go (inr w) = (w.0, sym w.1.1)

    -- no other number is answered than those up to `top`, and top + 1
    pub number_most : number_in most top bytes ≤ top + 1
    number_most = go number_cases
      where
        go : (number_in most top bytes ≡ top + 1) ⊎ (Digits most bytes × ((value_from 0 bytes ≤ top) × (number_in most top bytes ≡ value_from 0 bytes))) → number_in most top bytes ≤ top + 1
        go (inl e) = omega arith
        go (inr w) = omega (arith, w.1.0, w.1.1)

    -- too many bytes are no number
    pub number_long : most < length bytes → number_in most top bytes ≡ top + 1
    number_long l = go number_cases
      where
        go : (number_in most top bytes ≡ top + 1) ⊎ (Digits most bytes × ((value_from 0 bytes ≤ top) × (number_in most top bytes ≡ value_from 0 bytes))) → number_in most top bytes ≡ top + 1
        go (inl e) = e
        go (inr w) = absurd (omega (arith, w.0.few))

    -- digits whose value is above `top` are no number
    pub number_large : top < value_from 0 bytes → number_in most top bytes ≡ top + 1
    number_large l = go number_cases
      where
        go : (number_in most top bytes ≡ top + 1) ⊎ (Digits most bytes × ((value_from 0 bytes ≤ top) × (number_in most top bytes ≡ value_from 0 bytes))) → number_in most top bytes ≡ top + 1
        go (inl e) = e
        go (inr w) = absurd (omega (arith, w.1.0))

-- the number n in base ten is n, if it is not above `top` and has no more digits
pub number_decimal : (k top n : ℕ) → n < 10 ^ suc k → n ≤ top → number_in (suc k) top (decimal n) ≡ n
number_decimal k top n h l =
    let d : Digits (suc k) (decimal n) = record { some = decimal_some n; few = decimal_few k n h; each = decimal_digits n } in
    number_is (suc k) (decimal n) top d (omega (arith, decimal_value n)) ∙ decimal_value n

-- a word is the number that it writes
pub word_number : (n : ℕ) → n ≤ 65535 → number_of (decimal n) ≡ n
unfolding number_of
word_number n h = number_decimal 4 65535 n (omega arith) h

-- only one to five digits are a number, the one that they write
pub word_digits : (word : List ℕ) → number_of word ≢ 65536 → Digits 5 word × (value_from 0 word ≡ number_of word)
unfolding number_of
word_digits word h = number_from 5 word 65535 (go (number_most 5 word 65535))
  where
    go : number_in 5 65535 word ≤ 65535 + 1 → number_in 5 65535 word ≤ 65535
    go l = omega (arith, h)
