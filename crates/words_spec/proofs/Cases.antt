-- Nothing to believe: cases. Words that are numbers and words that are not.
use Rattle.std.specs.Prelude.{◌≡◌, refl, [], ◌∷◌, map}
use Rattle.base.specs.Range.{all}
use Rattle.text_spec.specs.Lines.{ascii, value_from}
use Rattle.words_spec.specs.Numbers.{is_digit, digit_at, all_digits, few_digits, number_in, number_of}

-- words as numbers, and words that are none
pub words_hold : map number_of (ascii "0" ∷ ascii "1023" ∷ ascii "01024" ∷ ascii "65535" ∷ ascii "65536" ∷ ascii "000001" ∷ ascii "" ∷ ascii "1a" ∷ ascii "-1" ∷ [])
    ≡ (0 ∷ 1023 ∷ 1024 ∷ 65535 ∷ 65536 ∷ 65536 ∷ 65536 ∷ 65536 ∷ 65536 ∷ [])
unfolding number_of number_in few_digits all_digits digit_at is_digit value_from all
words_hold = refl

-- the same of up to ten digits, below 2 to the power 32
pub long_words_hold : map (number_in 10 4294967295) (ascii "1" ∷ ascii "0000000001" ∷ ascii "4294967295" ∷ ascii "4294967296" ∷ ascii "9999999999" ∷ ascii "00000000001" ∷ ascii "42949672950" ∷ ascii "" ∷ ascii "1e9" ∷ [])
    ≡ (1 ∷ 1 ∷ 4294967295 ∷ 4294967296 ∷ 4294967296 ∷ 4294967296 ∷ 4294967296 ∷ 4294967296 ∷ 4294967296 ∷ [])
unfolding number_in few_digits all_digits digit_at is_digit value_from all
long_words_hold = refl
