-- Nothing to believe: words for laws alone. What an input is, in words of bytes and sheets: accepted sheets, one after
-- another, each in a version in which it can be written; and a text that has the lines of two sheets. It knows nothing
-- of the split nor of reading; the laws say what these inputs give. No contract uses it.
use Rattle.std.specs.Prelude.{◌≡◌, List, ◌++◌, ℕ}
use Rattle.sheet_spec.specs.declared.Sheet.{Sheet}
use Rattle.sheet_spec.specs.Refusals.{sheet_fault}
use Rattle.sheet_spec.specs.Form.{SheetForm}
use Rattle.sheet_spec.specs.Encoding.{BytesOf}
use Rattle.text_spec.specs.Lines.{ascii, sheet_line}
use Rattle.text_spec.specs.Input.{cut_input}

-- an accepted sheet: it has the machine's form and is not refused
abbrev pub AcceptedSheet : Sheet → Type 0
AcceptedSheet s = SheetForm s × (sheet_fault s ≡ 0)

-- the bytes of an input that count begin with those of an accepted sheet P, and the rest follows
pub record Begins (input : List ℕ) (P : Sheet) (rest : List ℕ) : Type 0 where
  pub reference_accepted : AcceptedSheet P
  pub first : List ℕ
  pub first_bytes : BytesOf first P
  pub bytes : cut_input input ≡ first ++ rest

-- the input is the bytes of two accepted sheets, back to back: P, the reference, and Q, the device
pub record BackToBack (input : List ℕ) (P Q : Sheet) : Type 0 where
  pub reference_accepted : AcceptedSheet P
  pub device_accepted : AcceptedSheet Q
  pub first : List ℕ
  pub first_bytes : BytesOf first P
  pub second : List ℕ
  pub second_bytes : BytesOf second Q
  pub bytes : input ≡ first ++ second

-- the line of the reference, the line of the device, and then the findings
abbrev pub after_sheets : Sheet → Sheet → List ℕ → List ℕ
after_sheets P Q findings = sheet_line (ascii "reference ") P.n P.e ++ (sheet_line (ascii "device ") Q.n Q.e ++ findings)
