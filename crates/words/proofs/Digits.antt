-- Bytes that are to be digits: each is one, or one is none; and the number that they write, digit by digit.
use Rattle.std.specs.Prelude.{◌≡◌, Bool, true, false, List, ℕ, ◌+◌, ◌-◌, ◌*◌, ◌^◌, ◌≤◌, ◌<◌, length, get_or, drop}
use Rattle.std.specs.Bool.{MatchBool}
use Rattle.std.specs.List.{AllWithin, HoldsAt}
use Rattle.std.proofs.Common.{sym, add-one, arith, drop_of_length-le, drop-cons}
use Rattle.std.proofs.Math.Nat.{pow-succ'}
use Rattle.base.proofs.Range.{all←, all_stop}
use Rattle.text_spec.specs.Lines.{value_from}
use Rattle.words_spec.specs.Numbers.{is_digit, digit_at, all_digits}

-- each byte is a digit, or one is none
pub digits_tested : (w : List ℕ) (r : Bool) → MatchBool r (AllWithin (λ b. is_digit b ≡ true) w 0 (length w)) ((k : ℕ) × (k < length w) × HoldsAt (λ b. is_digit b ≡ false) w k)
    → r ≡ all_digits w
unfolding all_digits digit_at
digits_tested w true h = sym (all← (digit_at w) (length w) (λ i l. h i 0 (omega arith) l))
digits_tested w false h = sym (all_stop (digit_at w) (length w) h.0 h.1 (h.2 0))

-- a digit more writes a number below the next power of ten
pub value_below : (i v b : ℕ) → v < 10 ^ i → b < 58 → v * 10 + (b - 48) < 10 ^ (i + 1)
value_below i v b h d = rw (add-one i, pow-succ' 10 i) (omega arith)

-- what is left of the digits, after the number so far, writes the whole
pub value_next : (w : List ℕ) (i v : ℕ) → i < length w → value_from v (drop i w) ≡ value_from 0 w → value_from (v * 10 + (get_or w i 0 - 48)) (drop (i + 1) w) ≡ value_from 0 w
unfolding value_from
value_next w i v l h = rw (add-one i) (rw (drop-cons w i 0 l) at h)

pub value_done : (w : List ℕ) (i v : ℕ) → length w ≤ i → value_from v (drop i w) ≡ value_from 0 w → v ≡ value_from 0 w
unfolding value_from
value_done w i v l h = rw (drop_of_length-le w {i = i} l) at h
