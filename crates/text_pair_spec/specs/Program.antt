-- The text of a program that reads two sheets (01, "The program `compare`"), as a function of its input
-- and of its findings.
use Rattle.std.specs.Prelude.{cond, List, ◌++◌, ℕ, eqb}
use Rattle.sheet_spec.specs.declared.Sheet.{Sheet}
use Rattle.sheet_spec.specs.declared.ReadSheet.{ReadSheet}
use Rattle.sheet_spec.specs.Reading.{read_sheet}
use Rattle.text_spec.specs.Lines.{ascii, number_line, sheet_line}
use Rattle.text_spec.specs.Input.{cut_input}
use Rattle.text_pair_spec.specs.Split.{first_sheet, second_sheet}

-- findings: the lines that are printed after two accepted sheets, the reference and the device
abbrev pub Findings : Type 0
Findings = Sheet → Sheet → List ℕ

-- the lines after an accepted reference's: a bad device prints only its refusal
unfoldable pub device_lines : Findings → Sheet → ReadSheet → List ℕ
device_lines findings P b =
    cond (eqb b.refusal 0)
    (sheet_line (ascii "device ") b.sheet.n b.sheet.e ++ findings P b.sheet)
    (number_line (ascii "device refused ") b.refusal)

-- all lines for two sheets as they were read: a bad reference prints only its refusal
unfoldable pub sheets_lines : Findings → ReadSheet → ReadSheet → List ℕ
sheets_lines findings a b =
    cond (eqb a.refusal 0)
    (sheet_line (ascii "reference ") a.sheet.n a.sheet.e ++ device_lines findings a.sheet b)
    (number_line (ascii "reference refused ") a.refusal)

-- all lines for an input that is not too long
unfoldable pub input_lines : Findings → List ℕ → List ℕ
input_lines findings input = sheets_lines findings (read_sheet (first_sheet input)) (read_sheet (second_sheet input))

-- all lines for any input, of which no more than 4,096 bytes count
unfoldable pub pair_text : Findings → List ℕ → List ℕ
pair_text findings input = input_lines findings (cut_input input)

-- the reference of an input, as it is read
abbrev pub reference : List ℕ → ReadSheet
reference input = read_sheet (first_sheet (cut_input input))

-- the device of an input, as it is read
abbrev pub device : List ℕ → ReadSheet
device input = read_sheet (second_sheet (cut_input input))
