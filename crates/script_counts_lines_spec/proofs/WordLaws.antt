-- Nothing to believe: laws. Which words are which L: one to five digits are the number that they write, leading zeros
-- or not, and every other word is none.
use Rattle.std.specs.Prelude.{◌≡◌, ◌↔◌, ◌⊎◌, List, ◌∷◌}
use Rattle.std.proofs.Math.Path.{sym}
use Rattle.std.proofs.Common.{◌∙◌, inl, inr}
use Prim.Native.Nat.{ℕ, zero, suc, ◌≤◌, ◌<◌}
use native.Mathlib.Omega.{arith}
use Rattle.std.proofs.Math.ListN.{length, get_or}
use Rattle.base.proofs.Truth.{lt_or_ge}
use Rattle.text_spec.specs.Lines.{decimal, value_from}
use Rattle.words_spec.specs.Numbers.{Digits}
use Rattle.words_spec.proofs.NumberLaws.{number_is, number_from, number_most, number_decimal}
use Rattle.script_counts_lines_spec.specs.Program.{length_of}
use Rattle.script_counts_lines_spec.specs.Says.{IsLength}

module _ (word : List ℕ) where
  -- a word is L, up to 65,534, exactly if it is one to five digits that write L
  pub length_word : (L : ℕ) → L ≤ 65534 → (length_of word ≡ L) ↔ (Digits 5 word × (value_from 0 word ≡ L))
  unfolding length_of
  length_word L l = (to, from)
    where
      to : length_of word ≡ L → Digits 5 word × (value_from 0 word ≡ L)
      to e = let w = number_from 5 word 65534 (omega (arith, e)) in (w.0, w.1 ∙ e)

      from : Digits 5 word × (value_from 0 word ≡ L) → length_of word ≡ L
      from w = number_is 5 word 65534 w.0 (omega (arith, w.1)) ∙ w.1

  -- every other word counts as 65,535
  pub no_length : ¬ (Digits 5 word × (value_from 0 word ≤ 65534)) → length_of word ≡ 65535
  unfolding length_of
  no_length n = go (lt_or_ge 65534 (length_of word))
    where
      go : (65534 < length_of word) ⊎ (length_of word ≤ 65534) → length_of word ≡ 65535
      go (inl l) = omega (arith, l, number_most 5 word 65534)
      go (inr l) = absurd (let w = number_from 5 word 65534 l in n (w.0, omega (arith, l, w.1)))

  -- a word is the length of a script exactly if its L is at most 16, and then it is the number that it writes
  pub length_is : IsLength word → length_of word ≡ value_from 0 word
  unfolding length_of
  length_is w = number_is 5 word 65534 w.0 (omega (arith, w.1))

  pub length_short : (length_of word ≤ 16) ↔ IsLength word
  unfolding length_of
  length_short = (to, λ w. omega (arith, length_is w, w.1))
    where
      to : length_of word ≤ 16 → IsLength word
      to l = let w = number_from 5 word 65534 (omega (arith, l)) in (w.0, omega (arith, l, w.1))

  -- a word is the length of a script, or it is none
  pub short_or_not : IsLength word ⊎ (¬ IsLength word)
  short_or_not = go (lt_or_ge 16 (length_of word))
    where
      go : (16 < length_of word) ⊎ (length_of word ≤ 16) → IsLength word ⊎ (¬ IsLength word)
      go (inl l) = inr (λ w. omega (arith, l, length_short.1 w))
      go (inr l) = inl (length_short.0 l)

  -- a zero in front changes nothing, as long as there are five digits at most
  pub zero_in_front : IsLength word → length word ≤ 4 → IsLength (48 ∷ word) × (length_of (48 ∷ word) ≡ length_of word)
  unfolding length_of value_from
  zero_in_front w l = (both, number_is 5 (48 ∷ word) 65534 both.0 (omega (arith, w.1)) ∙ sym (length_is w))
    where
      each : (i : ℕ) → i < length (48 ∷ word) → (48 ≤ get_or (48 ∷ word) i 0) × (get_or (48 ∷ word) i 0 < 58)
      each zero h = (omega arith, omega arith)
      each (suc i) h = w.0.each i (omega arith)

      both : IsLength (48 ∷ word)
      both = (record { some = omega arith; few = omega arith; each = each }, w.1)

-- L in base ten is the word of L
pub length_decimal : (L : ℕ) → L ≤ 65534 → length_of (decimal L) ≡ L
unfolding length_of
length_decimal L l = number_decimal 4 65534 L (omega arith) l
