-- Nothing to believe: laws. How large the counts can be, and how long the text: at most 218 bytes.
use Rattle.std.specs.Prelude.{◌≡◌, ◌⊎◌, List, ◌++◌, ℕ, ◌+◌, ◌^◌, ◌≤◌, ◌<◌, length}
use Rattle.std.proofs.Common.{subst, inl, inr, arith, length-append}
use Rattle.std.proofs.Math.Decide.{ℕ_discrete}
use Rattle.sheet_spec.specs.declared.Sheet.{Sheet}
use Rattle.sheet_spec.specs.Refusals.{sheet_fault, BothAccepted, Agree, PairWays}
use Rattle.sheet_spec.proofs.PairFaults.{pair_ways}
use Rattle.text_spec.specs.Lines.{ascii, decimal, value_from, number_line}
use Rattle.text_spec.proofs.DecimalLaws.{decimal_few}
use Rattle.text_spec.proofs.LengthLaws.{number_length}
use Rattle.text_pair_spec.proofs.ProgramLaws.{pair_length}
use Rattle.scripts_spec.specs.Scripts.{Walked, DeviceStops, ReferenceStops, count_of, scripts_fault, scripts_of}
use Rattle.scripts_spec.proofs.CountLaws.{counts_sum}
use Rattle.scripts_spec.proofs.CallLaws.{scripts_0, scripts_denied, told_sum, told_fits}
use Rattle.script_counts_lines_spec.specs.Lines.{total_line, count_lines}
use Rattle.script_counts_lines_spec.specs.Program.{counted_lines, scripts_text}
use Rattle.script_counts_lines_spec.specs.Says.{IsLength, refused_line, five_lines}
use Rattle.script_counts_lines_spec.proofs.LineLaws.{five_spelled}
use Rattle.script_counts_lines_spec.proofs.WordLaws.{short_or_not}
use Rattle.script_counts_lines_spec.proofs.ProgramLaws.{unequal_lines, unequal_codes_lines, no_length_lines, length_lines}

-- the counts of every answer, of a refusal too, sum to no more than 12 to the power 16
pub sum_few : (P Q : Sheet) (L : ℕ) → (scripts_of P Q L).walked + ((scripts_of P Q L).device + (scripts_of P Q L).reference) ≤ 184884258895036416
sum_few P Q L = go (ℕ_discrete (scripts_fault P Q L) 0)
  where
    go : Dec (scripts_fault P Q L ≡ 0) → (scripts_of P Q L).walked + ((scripts_of P Q L).device + (scripts_of P Q L).reference) ≤ 184884258895036416
    go (yes f) = omega (arith, told_sum P Q L f, told_fits P Q L f)
    go (no n) = rw (scripts_denied P Q L n) (omega arith)

-- the length of the five lines, where the counts sum to a number of at most 18 digits
counts_length : (L n w d r : ℕ) → L ≤ 16 → n < 10 ^ 18 → w + (d + r) < 10 ^ 18 → length (count_lines L n w d r) ≤ 163
unfolding count_lines total_line
counts_length L n w d r l h k =
    omega (
      arith,
      length-append total (walked ++ (device ++ (reference ++ early))),
      length-append walked (device ++ (reference ++ early)),
      length-append device (reference ++ early),
      length-append reference early,
      length-append (ascii "scripts of ") (decimal L ++ number_line (ascii " events ") n),
      length-append (decimal L) (number_line (ascii " events ") n),
      decimal_few 1 L (omega arith),
      number_length (ascii " events ") 17 n h,
      number_length (ascii "walked ") 17 w (omega arith),
      number_length (ascii "device stops ") 17 d (omega arith),
      number_length (ascii "reference stops ") 17 r (omega arith),
      number_length (ascii "ends early ") 17 (d + r) (omega arith),
    )
  where
    total : List ℕ
    total = ascii "scripts of " ++ (decimal L ++ number_line (ascii " events ") n)

    walked : List ℕ
    walked = number_line (ascii "walked ") w

    device : List ℕ
    device = number_line (ascii "device stops ") d

    reference : List ℕ
    reference = number_line (ascii "reference stops ") r

    early : List ℕ
    early = number_line (ascii "ends early ") (d + r)

-- the length of the five lines of two accepted sheets that agree, and of the line of a refusal
five_length : (P Q : Sheet) → BothAccepted P Q → Agree P Q → (L : ℕ) → L ≤ 16 → length (five_lines P Q L) ≤ 163
five_length P Q acc agree L l =
    let few = told_fits P Q L ((scripts_0 P Q L).1 ((acc, agree), λ h. omega arith)) in
    let c = counts_length L (P.e ^ L) w d r l (omega (arith, few)) (omega (arith, few, counts_sum P Q L)) in
    subst (λ (x : List ℕ). length x ≤ 163) (five_spelled L (P.e ^ L) w d r) c
  where
    w : ℕ
    w = count_of P Q L Walked

    d : ℕ
    d = count_of P Q L DeviceStops

    r : ℕ
    r = count_of P Q L ReferenceStops

refused_length : (m : ℕ) → m < 100 → length (refused_line m) ≤ 163
refused_length m h = omega (arith, number_length (ascii "scripts refused ") 1 m h)

-- the length of the lines after two accepted sheets
counted_length : (word : List ℕ) (P Q : Sheet) → sheet_fault P ≡ 0 → sheet_fault Q ≡ 0 → length (counted_lines word P Q) ≤ 163
counted_length word P Q acc_p acc_q = go (pair_ways P Q) (short_or_not word)
  where
    go : PairWays P Q → IsLength word ⊎ (¬ IsLength word) → length (counted_lines word P Q) ≤ 163
    go (inl a) (inl w) = rw (length_lines word P Q acc_p acc_q a w) (five_length P Q (acc_p, acc_q) a (value_from 0 word) w.1)
    go (inl a) (inr n) = rw (no_length_lines word P Q acc_p acc_q a n) (refused_length 20 (omega arith))
    go (inr (inl d)) w = rw (unequal_lines word P Q acc_p acc_q d) (refused_length 11 (omega arith))
    go (inr (inr d)) w = rw (unequal_codes_lines word P Q acc_p acc_q d) (refused_length 19 (omega arith))

-- every text has at most 218 bytes
pub text_length : (word input : List ℕ) → length (scripts_text word input) ≤ 218
unfolding scripts_text
text_length word input = pair_length (counted_lines word) 163 (counted_length word) input
