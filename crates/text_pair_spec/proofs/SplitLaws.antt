-- Nothing to believe: laws. How the input is split: all of it is the first sheet, or the first sheet has as many bytes
-- as its length field and 4, and the rest is the second; so an accepted sheet at the front is the first sheet, whatever
-- follows it.
use Rattle.std.specs.Prelude.{◌≡◌, refl, ◌⊎◌, true, List, [], ◌++◌, ℕ, ◌+◌, ◌-◌, ◌≤◌, ◌<◌, ltb, length}
use Rattle.std.proofs.Math.Path.{ap}
use Rattle.std.proofs.Common.{◌∙◌, inl, inr, arith, length-append, take-append-drop, length-take-le, lt-ltb, le-ltb}
use Rattle.std.proofs.Math.ListN.{take, drop, length-drop, get_or-append}
use Rattle.std.proofs.Math.Seq.{take-length, drop-length, take_all, take-append_seam, drop-append_seam}
use Rattle.base.proofs.Truth.{or_r}
use Rattle.sheet_spec.specs.Spelling.{length_field}
use Rattle.sheet_spec.specs.Refusals.{bytes_fault}
use Rattle.sheet_spec.proofs.Places.{accepts}
use Rattle.text_pair_spec.specs.Split.{first_end, first_sheet, second_sheet}

-- where the input has under 4 bytes, or its length field exceeds it, the first sheet ends with the input
pub end_all : (input : List ℕ) → (length input < 4) ⊎ (length input < length_field input + 4) → first_end input ≡ length input
unfolding first_end
end_all input (inl h) = rw (lt-ltb (length input) 4 h)
end_all input (inr h) = rw (lt-ltb (length input) (length_field input + 4) h, or_r (ltb (length input) 4) {b = true} refl)

-- where the length field does not exceed the input, the first sheet ends as the field says
pub end_two : (input : List ℕ) → 4 ≤ length input → length_field input + 4 ≤ length input → first_end input ≡ length_field input + 4
unfolding first_end
end_two input h k = rw (le-ltb (length input) 4 h, le-ltb (length input) (length_field input + 4) k)

-- in the split of an input no byte is lost and none is read twice
pub split_whole : (input : List ℕ) → first_sheet input ++ second_sheet input ≡ input
unfolding first_sheet second_sheet
split_whole input = take-append-drop (first_end input) input

-- where the input has under 4 bytes, or its length field exceeds it, the second sheet has no byte
pub split_all : (input : List ℕ) → (length input < 4) ⊎ (length input < length_field input + 4) → (first_sheet input ≡ input) × (second_sheet input ≡ [])
unfolding first_sheet second_sheet
split_all input h = (ap (λ (k : ℕ). take k input) (end_all input h) ∙ take-length input, ap (λ (k : ℕ). drop k input) (end_all input h) ∙ drop-length input)

-- where the length field does not exceed the input, the first sheet is as long as the field says
pub split_two : (input : List ℕ) → 4 ≤ length input → length_field input + 4 ≤ length input → length (first_sheet input) ≡ length_field input + 4
unfolding first_sheet
split_two input h k = rw (end_two input h k) (length-take-le (length_field input + 4) input k)

-- the length field stands in the first four bytes, whatever follows them
field_front : (b rest : List ℕ) → 4 ≤ length b → length_field (b ++ rest) ≡ length_field b
unfolding length_field
field_front b rest h =
    rw (get_or-append b rest 0 0 (omega arith), get_or-append b rest 0 1 (omega arith), get_or-append b rest 0 2 (omega arith), get_or-append b rest 0 3 (omega arith))

-- an accepted sheet at the front of an input is its first sheet, and what follows it is the second
pub split_accepted : (b rest : List ℕ) → bytes_fault b ≡ 0 → (first_sheet (b ++ rest) ≡ b) × (second_sheet (b ++ rest) ≡ rest)
unfolding first_sheet second_sheet
split_accepted b rest h = (rw e (take-append_seam b rest), rw e (drop-append_seam b rest))
  where
    e : first_end (b ++ rest) ≡ length b
    e =
        let x = (accepts b h).headed in
        let f = field_front b rest (omega (arith, x.long)) in
        let l = length-append b rest in
        end_two (b ++ rest) (omega (arith, l, x.long)) (omega (arith, l, f, x.length_is)) ∙ rw f x.length_is

-- the two parts of an input at the place where the first sheet ends are the two sheets
module _ (input : List ℕ) where
  pub first_is : {k : ℕ} → k ≡ first_end input → take k input ≡ first_sheet input
  unfolding first_sheet
  first_is e = ap (λ (x : ℕ). take x input) e

  pub second_is : {k : ℕ} → k ≡ first_end input → take (length input - k) (drop k input) ≡ second_sheet input
  unfolding second_sheet
  second_is {k} e = take_all (length input - k) (drop k input) (omega (arith, length-drop k input)) ∙ ap (λ (x : ℕ). drop x input) e

  pub second_from : {k : ℕ} → k ≡ first_end input → drop k input ≡ second_sheet input
  unfolding second_sheet
  second_from e = ap (λ (x : ℕ). drop x input) e
