-- Nothing to believe: laws. What the words ask for, exactly when: nothing without a word, a code with one word that is
-- one, and every other word, and more than one, is wrong use.
use Rattle.std.specs.Prelude.{◌≡◌, ◌⊎◌, ◌↔◌, List, ℕ, ◌≤◌, ◌<◌}
use Rattle.std.proofs.Math.Path.{refl}
use Rattle.std.proofs.Common.{inl, inr, arith}
use borrow.Author.Tests.{ne_eqb, le-leb, lt-leb}
use Rattle.base.proofs.Truth.{lt_or_ge}
use Rattle.text_spec.specs.Lines.{decimal, value_from}
use Rattle.words_spec.specs.Numbers.{Digits}
use Rattle.words_spec.proofs.NumberLaws.{number_is, number_from, number_decimal}
use Rattle.keypad_check_lines_spec.specs.declared.AskedCode.TheVariants.{Nothing, Code, Wrong}
use Rattle.keypad_check_lines_spec.specs.Program.{word_code, asked_of}
use Rattle.keypad_check_lines_spec.specs.Says.{IsCode}

module _ (word : List ℕ) where
  -- a word is a code exactly if its number is at most 255, and then it is the number that it writes
  pub code_is : IsCode word → word_code word ≡ value_from 0 word
  unfolding word_code
  code_is w = number_is 5 word 255 w.0 w.1

  pub code_means : (word_code word ≤ 255) ↔ IsCode word
  unfolding word_code
  code_means = (λ l. let w = number_from 5 word 255 l in (w.0, omega (arith, l, w.1)), λ w. omega (arith, code_is w, w.1))

  -- without a word nothing is asked for
  pub asked_none : asked_of 0 word ≡ Nothing
  unfolding asked_of
  asked_none = refl

  -- one word that is a code asks for it
  pub asked_code : Digits 5 word → value_from 0 word ≤ 255 → asked_of 1 word ≡ Code (value_from 0 word)
  unfolding asked_of
  asked_code d l = let w : IsCode word = (d, l) in rw (le-leb (word_code word) 255 (code_means.1 w), code_is w)

  -- one word that is none is wrong use
  pub asked_no_code : ¬ IsCode word → asked_of 1 word ≡ Wrong
  unfolding asked_of
  asked_no_code n = go (lt_or_ge 255 (word_code word))
    where
      go : (255 < word_code word) ⊎ (word_code word ≤ 255) → asked_of 1 word ≡ Wrong
      go (inl l) = rw (lt-leb (word_code word) 255 l)
      go (inr l) = absurd (n (code_means.0 l))

  -- more than one is wrong use, whatever the first is
  pub asked_more : (count : ℕ) → 1 < count → asked_of count word ≡ Wrong
  unfolding asked_of
  asked_more count l = rw (ne_eqb count 0 (λ e. omega (arith, l, e)), ne_eqb count 1 (λ e. omega (arith, l, e)))

-- a code in base ten is the word of that code
pub asked_decimal : (c : ℕ) → c ≤ 255 → asked_of 1 (decimal c) ≡ Code c
unfolding asked_of word_code
asked_decimal c l = let e = number_decimal 4 255 c (omega arith) l in rw (e, le-leb c 255 l)
