-- Nothing to believe: laws. What the text says, whatever the findings: bytes behind 4,096 play no part; a refused
-- sheet's line is the last; after two accepted sheets come the findings, and the text is longer than these by at most
-- 55 bytes.
use Rattle.std.specs.Prelude.{◌≡◌, ◌≢◌, Bool, cond, List, ◌++◌, ℕ, ◌+◌, ◌≤◌}
use Rattle.std.proofs.Math.Path.{refl}
use Rattle.std.proofs.Common.{ap}
use Rattle.std.proofs.Math.Bool.{true, false}
use native.Mathlib.Omega.{arith}
use Rattle.std.proofs.Math.Dec.{eqb}
use Rattle.std.proofs.Math.ListN.{length, length-append}
use borrow.Author.Tests.{eqb-true, eq-eqb, ne_eqb}
use Rattle.sheet_spec.specs.declared.Sheet.{Sheet}
use Rattle.sheet_spec.specs.Refusals.{sheet_fault}
use Rattle.sheet_spec.specs.Reading.{read_sheet}
use Rattle.sheet_spec.proofs.AnswerLaws.{read_refusal, read_kept}
use Rattle.sheet_spec.proofs.ReadLaws.{read_numbers_lem}
use Rattle.sheet_spec.proofs.SoundLaws.{check_sound}
use Rattle.text_spec.specs.Lines.{ascii, number_line, sheet_line}
use Rattle.text_spec.specs.Input.{cut_input}
use Rattle.text_pair_spec.specs.Split.{first_sheet, second_sheet}
use Rattle.text_spec.proofs.InputLaws.{cut_more}
use Rattle.text_spec.proofs.LengthLaws.{number_length, sheet_length}
use Rattle.text_pair_spec.specs.Program.{Findings, device_lines, sheets_lines, input_lines, pair_text, reference, device}
use Rattle.text_pair_spec.specs.BackToBack.{after_sheets}

-- bytes behind 4,096 count as absent
pub later_absent : (findings : Findings) (input more : List ℕ) → length input ≡ 4096 → pair_text findings (input ++ more) ≡ pair_text findings input
unfolding pair_text
later_absent findings input more h = ap (input_lines findings) (cut_more input more h)

module _ (input : List ℕ) where
  module _ (findings : Findings) where
    -- a refused reference: its refusal alone
    pub reference_refused : (reference input).refusal ≢ 0 → pair_text findings input ≡ number_line (ascii "reference refused ") (reference input).refusal
    unfolding pair_text input_lines sheets_lines
    reference_refused n = rw (ne_eqb (reference input).refusal 0 n)

    module _ (h : (reference input).refusal ≡ 0) where
      -- an accepted reference and a refused device: the size of the one, the refusal of the other
      pub device_refused : (device input).refusal ≢ 0
          → pair_text findings input ≡ sheet_line (ascii "reference ") (reference input).sheet.n (reference input).sheet.e ++ number_line (ascii "device refused ") (device input).refusal
      unfolding pair_text input_lines sheets_lines device_lines
      device_refused n = rw (eq-eqb (reference input).refusal 0 h, ne_eqb (device input).refusal 0 n)

      -- two accepted sheets: their sizes, and the findings
      pub both_accepted : (device input).refusal ≡ 0
          → pair_text findings input ≡ after_sheets (reference input).sheet (device input).sheet (findings (reference input).sheet (device input).sheet)
      unfolding pair_text input_lines sheets_lines device_lines
      both_accepted k = rw (eq-eqb (reference input).refusal 0 h, eq-eqb (device input).refusal 0 k)

-- the length of the line of an accepted sheet
line_length : (who b : List ℕ) → (read_sheet b).refusal ≡ 0 → length (sheet_line who (read_sheet b).sheet.n (read_sheet b).sheet.e) ≤ length who + 19
line_length who b h =
    let s = (check_sound (read_sheet b).sheet (read_kept b h)).ranges in
    sheet_length who (read_sheet b).sheet.n (read_sheet b).sheet.e (omega (arith, s.n_high)) (omega (arith, s.e_high))

-- the length of the line of a refused sheet
refused_length : (who b : List ℕ) → length (number_line who (read_sheet b).refusal) ≤ length who + 3
refused_length who b = omega (arith, number_length who 1 (read_sheet b).refusal (omega (arith, read_refusal b, read_numbers_lem b)))

-- findings that have at most m bytes after every two accepted sheets
module _ (findings : Findings) (m : ℕ) (few : (P Q : Sheet) → sheet_fault P ≡ 0 → sheet_fault Q ≡ 0 → length (findings P Q) ≤ m) where
  device_length_lem : (P : Sheet) → sheet_fault P ≡ 0 → (b : List ℕ) → length (device_lines findings P (read_sheet b)) ≤ m + 26
  unfolding device_lines
  device_length_lem P acc_p b = go (eqb (read_sheet b).refusal 0) refl
    where
      go : (x : Bool) → eqb (read_sheet b).refusal 0 ≡ x
          → length (cond x (sheet_line (ascii "device ") (read_sheet b).sheet.n (read_sheet b).sheet.e ++ findings P (read_sheet b).sheet) (number_line (ascii "device refused ") (read_sheet b).refusal)) ≤ m + 26
      go true e =
          let h = eqb-true (read_sheet b).refusal 0 e in
          omega (
            arith,
            length-append (sheet_line (ascii "device ") (read_sheet b).sheet.n (read_sheet b).sheet.e) (findings P (read_sheet b).sheet),
            line_length (ascii "device ") b h,
            few P (read_sheet b).sheet acc_p (read_kept b h),
          )
      go false e = omega (arith, refused_length (ascii "device refused ") b)

  sheets_length : (a b : List ℕ) → length (sheets_lines findings (read_sheet a) (read_sheet b)) ≤ m + 55
  unfolding sheets_lines
  sheets_length a b = go (eqb (read_sheet a).refusal 0) refl
    where
      go : (x : Bool) → eqb (read_sheet a).refusal 0 ≡ x
          → length (cond x (sheet_line (ascii "reference ") (read_sheet a).sheet.n (read_sheet a).sheet.e ++ device_lines findings (read_sheet a).sheet (read_sheet b)) (number_line (ascii "reference refused ") (read_sheet a).refusal)) ≤ m + 55
      go true e =
          let h = eqb-true (read_sheet a).refusal 0 e in
          omega (
            arith,
            length-append (sheet_line (ascii "reference ") (read_sheet a).sheet.n (read_sheet a).sheet.e) (device_lines findings (read_sheet a).sheet (read_sheet b)),
            line_length (ascii "reference ") a h,
            device_length_lem (read_sheet a).sheet (read_kept a h) b,
          )
      go false e = omega (arith, refused_length (ascii "reference refused ") a)

  -- the lines of the sheets add at most 55 bytes to the findings
  pub pair_length : (input : List ℕ) → length (pair_text findings input) ≤ m + 55
  unfolding pair_text input_lines
  pair_length input = sheets_length (first_sheet (cut_input input)) (second_sheet (cut_input input))
