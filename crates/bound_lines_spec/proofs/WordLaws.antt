-- Nothing to believe: laws. Which words are a number of nodes, and which number each is; what each third word asks for.
use Rattle.std.specs.Prelude.{◌≡◌, refl, ◌⊎◌, ◌↔◌, ◌≢◌, List, ℕ, Some, None, ◌≤◌, ◌<◌, get_or}
use Rattle.std.proofs.Common.{sym, ap, ◌∙◌, inl, inr, arith}
use Rattle.base.proofs.Truth.{lt_or_ge}
use Rattle.text_spec.specs.Lines.{ascii, decimal, value_from}
use Rattle.words_spec.specs.Numbers.{Digits, number_in}
use Rattle.words_spec.proofs.NumberLaws.{number_is, number_from, number_most, number_decimal}
use Rattle.words_spec.proofs.SameLaws.{same←, same_not}
use Rattle.bound_spec.proofs.CallLaws.{InRange, OutOfRange}
use Rattle.bound_lines_spec.specs.declared.Asked.TheVariants.{Lines, Reference, Device}
use Rattle.bound_lines_spec.specs.Program.{size_of, asked_of}
use Rattle.bound_lines_spec.specs.Says.{IsSize, NoSize}

-- ---- numbers of nodes

module _ (word : List ℕ) where
  -- each number up to 32 exactly for the digits that write it; every other word counts as 33
  pub size_word : (n : ℕ) → n ≤ 32 → (size_of word ≡ n) ↔ (Digits 3 word × (value_from 0 word ≡ n))
  unfolding size_of
  size_word n l = (
    λ e. let w = number_from 3 word 32 (omega (arith, e, l)) in (w.0, w.1 ∙ e),
    λ w. number_is 3 word 32 w.0 (omega (arith, w.1, l)) ∙ w.1,
  )

  pub no_size : ¬ (Digits 3 word × (value_from 0 word ≤ 32)) → size_of word ≡ 33
  unfolding size_of
  no_size n = go (lt_or_ge 32 (number_in 3 32 word))
    where
      go : (32 < number_in 3 32 word) ⊎ (number_in 3 32 word ≤ 32) → size_of word ≡ 33
      go (inl l) = omega (arith, l, number_most 3 word 32)
      go (inr l) = absurd (let w = number_from 3 word 32 l in n (w.0, omega (arith, l, w.1)))

  pub size_small : size_of word ≤ 33
  unfolding size_of
  size_small = number_most 3 word 32

  -- a word is a number of nodes exactly if it counts as one in range, and then it is that number
  pub size_is : (n : ℕ) → IsSize word n → size_of word ≡ n
  size_is n (d, e, l, h) = (size_word n h).1 (d, e)

  pub size_means : InRange (size_of word) → IsSize word (size_of word)
  size_means (l, h) = let w = (size_word (size_of word) h).0 refl in (w.0, w.1, l, h)

  pub size_in : (n : ℕ) → IsSize word n → InRange (size_of word)
  size_in n s = (omega (arith, size_is n s, s.2), omega (arith, size_is n s, s.3))

  pub size_out : NoSize word → OutOfRange (size_of word)
  size_out f = go (lt_or_ge (size_of word) 1) (lt_or_ge 32 (size_of word))
    where
      go : (size_of word < 1) ⊎ (1 ≤ size_of word) → (32 < size_of word) ⊎ (size_of word ≤ 32) → OutOfRange (size_of word)
      go (inl l) h = inl l
      go (inr l) (inl h) = inr h
      go (inr l) (inr h) = absurd (f (size_of word) (size_means (l, h)))

  -- every word is one, or none
  pub size_or_none : ((n : ℕ) × IsSize word n) ⊎ NoSize word
  size_or_none = go (lt_or_ge (size_of word) 1) (lt_or_ge 32 (size_of word))
    where
      go : (size_of word < 1) ⊎ (1 ≤ size_of word) → (32 < size_of word) ⊎ (size_of word ≤ 32) → ((n : ℕ) × IsSize word n) ⊎ NoSize word
      go (inl l) h = inr (λ n s. omega (arith, l, (size_in n s).0))
      go (inr l) (inl h) = inr (λ n s. omega (arith, h, (size_in n s).1))
      go (inr l) (inr h) = inl (size_of word, size_means (l, h))

-- a number in base ten is the word of that number of nodes
pub size_decimal : (n : ℕ) → n ≤ 32 → size_of (decimal n) ≡ n
unfolding size_of
size_decimal n l = number_decimal 2 32 n (omega arith) l

-- ---- what is asked for

-- the three words, by the texts themselves, and every other word
lines_reference : ascii "lines" ≢ ascii "reference"
lines_reference e = omega (arith, ap (λ (t : List ℕ). get_or t 0 0) e)

lines_device : ascii "lines" ≢ ascii "device"
lines_device e = omega (arith, ap (λ (t : List ℕ). get_or t 0 0) e)

reference_device : ascii "reference" ≢ ascii "device"
reference_device e = omega (arith, ap (λ (t : List ℕ). get_or t 0 0) e)

pub asked_lines : asked_of (ascii "lines") ≡ Some Lines
unfolding asked_of
asked_lines = rw (same← (ascii "lines") (ascii "lines") refl)

pub asked_reference : asked_of (ascii "reference") ≡ Some Reference
unfolding asked_of
asked_reference = rw (same_not (ascii "reference") (ascii "lines") (λ e. lines_reference (sym e)), same← (ascii "reference") (ascii "reference") refl)

pub asked_device : asked_of (ascii "device") ≡ Some Device
unfolding asked_of
asked_device =
    rw (same_not (ascii "device") (ascii "lines") (λ e. lines_device (sym e)), same_not (ascii "device") (ascii "reference") (λ e. reference_device (sym e)), same← (ascii "device") (ascii "device") refl)

pub asked_nothing : (word : List ℕ) → word ≢ ascii "lines" → word ≢ ascii "reference" → word ≢ ascii "device" → asked_of word ≡ None
unfolding asked_of
asked_nothing word l r d = rw (same_not word (ascii "lines") l, same_not word (ascii "reference") r, same_not word (ascii "device") d)
