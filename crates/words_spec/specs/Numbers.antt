-- The number that some digits write, or none: for the events in reports and for the words that a program is started
-- with.
use Rattle.std.specs.Prelude.{Bool, ◌&&◌, cond, List, ℕ, ◌+◌, ◌≤◌, ◌<◌, leb, length, get_or}
use Rattle.base.specs.Range.{all}
use Rattle.text_spec.specs.Lines.{value_from}

-- whether a byte is the code of a digit, 0 to 9
unfoldable pub is_digit : ℕ → Bool
is_digit b = leb 48 b && leb b 57

-- whether byte i is the code of a digit
unfoldable pub digit_at : List ℕ → ℕ → Bool
digit_at bytes i = is_digit (get_or bytes i 0)

-- whether every byte is the code of a digit
unfoldable pub all_digits : List ℕ → Bool
all_digits bytes = all (digit_at bytes) (length bytes)

-- whether these bytes are one to `most` digits
unfoldable pub few_digits : ℕ → List ℕ → Bool
few_digits most bytes = leb 1 (length bytes) && (leb (length bytes) most && all_digits bytes)

-- the number that one to `most` digits write, if it is not above `top`; of everything else top + 1, which says that
-- there is none
unfoldable pub number_in : ℕ → ℕ → List ℕ → ℕ
number_in most top bytes = cond (few_digits most bytes && leb (value_from 0 bytes) top) (value_from 0 bytes) (top + 1)

-- the number that a word is: one to five digits, up to 65,535; else 65,536
unfoldable pub number_of : List ℕ → ℕ
number_of word = number_in 5 65535 word

-- in words: there are one to `most` bytes, and each is the code of a digit
pub record Digits (most : ℕ) (bytes : List ℕ) : Type 0 where
  pub some : 1 ≤ length bytes
  pub few : length bytes ≤ most
  pub each : (i : ℕ) → i < length bytes → (48 ≤ get_or bytes i 0) × (get_or bytes i 0 < 58)
