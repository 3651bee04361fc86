-- Nothing to believe: laws. Every text has at most 229 bytes, as many as the longest sheet, so it fits in the list that
-- the program puts it in.
use Rattle.std.specs.Prelude.{◌⊎◌, List, [], ◌++◌, ℕ, Option, Some, None, ◌+◌, ◌-◌, ◌*◌, ◌≤◌, ◌<◌, length}
use Rattle.std.proofs.Common.{inl, inr, mul-le-mul, arith, length-append}
use Rattle.base.proofs.Truth.{lt_or_ge}
use Rattle.bound_spec.specs.Calls.{reference_after, device_after}
use Rattle.bound_spec.proofs.CallLaws.{InRange, OutOfRange}
use Rattle.bound_spec.proofs.ByteLaws.{reference_length_lem, device_length_lem}
use Rattle.text_spec.specs.Lines.{ascii, decimal}
use Rattle.text_spec.proofs.DecimalLaws.{decimal_few}
use Rattle.bound_lines_spec.specs.declared.Asked.{Asked}
use Rattle.bound_lines_spec.specs.declared.Asked.TheVariants.{Lines, Reference, Device}
use Rattle.bound_lines_spec.specs.Program.{size_of, asked_of, lent_reference, lent_device, told_of, said_of, bound_text, bound_error}
use Rattle.bound_lines_spec.specs.Says.{pair_text}
use Rattle.bound_lines_spec.proofs.LineLaws.{pair_parts, thirty_parts, part_lengths, part_denied}
use Rattle.bound_lines_spec.proofs.ProgramLaws.{answered_given, answered_denied, reference_taken, device_taken}

pair_length : (p q : ℕ) → p ≤ 32 → q ≤ 32 → length (pair_text p q) ≤ 79
pair_length p q h k =
    omega (
      arith,
      length-append (decimal p) (ascii " nodes " ++ (decimal (7 * p + 5) ++ (ascii " bytes\ndevice " ++ (decimal q ++ (ascii " nodes " ++ (decimal (5 * q + 7) ++ (ascii " bytes\nfirst failing test " ++ (decimal (p * q - 1) ++ ascii "\n")))))))),
      length-append (decimal (7 * p + 5)) (ascii " bytes\ndevice " ++ (decimal q ++ (ascii " nodes " ++ (decimal (5 * q + 7) ++ (ascii " bytes\nfirst failing test " ++ (decimal (p * q - 1) ++ ascii "\n")))))),
      length-append (decimal q) (ascii " nodes " ++ (decimal (5 * q + 7) ++ (ascii " bytes\nfirst failing test " ++ (decimal (p * q - 1) ++ ascii "\n")))),
      length-append (decimal (5 * q + 7)) (ascii " bytes\nfirst failing test " ++ (decimal (p * q - 1) ++ ascii "\n")),
      length-append (decimal (p * q - 1)) (ascii "\n"),
      decimal_few 1 p (omega arith),
      decimal_few 1 q (omega arith),
      decimal_few 2 (7 * p + 5) (omega arith),
      decimal_few 2 (5 * q + 7) (omega arith),
      decimal_few 3 (p * q - 1) (omega (arith, few)),
    )
  where
    few : p * q ≤ 1024
    few = mul-le-mul h k

-- both numbers are in range, or one is not
in_or_out : (p q : ℕ) → (InRange p × InRange q) ⊎ (OutOfRange p ⊎ OutOfRange q)
in_or_out p q = go (lt_or_ge p 1) (lt_or_ge 32 p) (lt_or_ge q 1) (lt_or_ge 32 q)
  where
    go : (p < 1) ⊎ (1 ≤ p) → (32 < p) ⊎ (p ≤ 32) → (q < 1) ⊎ (1 ≤ q) → (32 < q) ⊎ (q ≤ 32) → (InRange p × InRange q) ⊎ (OutOfRange p ⊎ OutOfRange q)
    go (inl a) b c d = inr (inl (inl a))
    go (inr a) (inl b) c d = inr (inl (inr b))
    go (inr a) (inr b) (inl c) d = inr (inr (inl c))
    go (inr a) (inr b) (inr c) (inl d) = inr (inr (inr d))
    go (inr a) (inr b) (inr c) (inr d) = inl ((a, b), (c, d))

told_length : (p q : ℕ) (a : Option Asked) → (InRange p × InRange q) ⊎ (OutOfRange p ⊎ OutOfRange q) → length (told_of p q a) ≤ 229
unfolding told_of
told_length p q (Some Lines) (inl (x, y)) = rw (answered_given p q x y, pair_parts p q) (omega (arith, pair_length p q x.1 y.1))
told_length p q (Some Lines) (inr f) = rw (answered_denied p q f, thirty_parts p q) (omega arith)
told_length p q (Some Reference) (inl (x, y)) = rw (reference_taken p q x y) (omega (arith, reference_length_lem p x.0 x.1, x.1))
told_length p q (Some Reference) (inr f) = rw (answered_denied p q f, (part_denied (reference_after p q lent_reference lent_device)).0) (omega arith)
told_length p q (Some Device) (inl (x, y)) = rw (device_taken p q x y) (omega (arith, device_length_lem q y.0 y.1, y.1))
told_length p q (Some Device) (inr f) = rw (answered_denied p q f, (part_denied (device_after p q lent_reference lent_device)).1) (omega arith)
told_length p q None d = omega arith

said_length : (p q : ℕ) (a : Option Asked) → (InRange p × InRange q) ⊎ (OutOfRange p ⊎ OutOfRange q) → length (said_of p q a) ≤ 229
unfolding said_of
said_length p q (Some Lines) d = omega arith
said_length p q (Some Reference) (inl (x, y)) = rw (answered_given p q x y, (part_lengths (7 * p + 5) (5 * q + 7) []).2) (omega arith)
said_length p q (Some Reference) (inr f) = rw (answered_denied p q f, (part_denied []).2) (omega arith)
said_length p q (Some Device) (inl (x, y)) = rw (answered_given p q x y, (part_lengths (7 * p + 5) (5 * q + 7) []).2) (omega arith)
said_length p q (Some Device) (inr f) = rw (answered_denied p q f, (part_denied []).2) (omega arith)
said_length p q None d = omega arith

pub text_length : (p q word : List ℕ) → (length (bound_text p q word) ≤ 229) × (length (bound_error p q word) ≤ 229)
unfolding bound_text bound_error
text_length p q word = (
  told_length (size_of p) (size_of q) (asked_of word) (in_or_out (size_of p) (size_of q)),
  said_length (size_of p) (size_of q) (asked_of word) (in_or_out (size_of p) (size_of q)),
)
