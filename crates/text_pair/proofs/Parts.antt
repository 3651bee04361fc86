-- The lines of sheets as they were read, case by case; two sheets that are those of an input, with their lines put.
use Rattle.std.specs.Prelude.{◌≡◌, refl, false, ◌++◌, List, ℕ, eqb, Result, Ok, Err}
use Rattle.std.proofs.Common.{arith, append-nil, ne_eqb}
use Rattle.refusals.specs.declared.Refusal.{Refusal}
use Rattle.refusals.specs.Numbers.{number}
use Rattle.refusals.proofs.NumberLaws.{number_some}
use Rattle.sheet_spec.specs.declared.Sheet.{Sheet}
use Rattle.sheet_spec.specs.Reading.{kept, read_sheet}
use Rattle.text_spec.specs.Lines.{ascii, number_line, sheet_line}
use Rattle.text.specs.declared.Page.{Page}
use Rattle.text.specs.Pages.{Puts}
use Rattle.text_pair_spec.specs.Split.{first_sheet, second_sheet}
use Rattle.text_pair_spec.specs.Program.{device_lines, sheets_lines, input_lines}
use Rattle.text_pair_spec.specs.Opening.{silent, Opens}

-- no refusal is 0
number_not : (cause : Refusal) → eqb (number cause) 0 ≡ false
number_not cause = ne_eqb (number cause) 0 (λ e. omega (arith, number_some cause))

-- the lines after an accepted reference's
pub device_read : (P s : Sheet) → device_lines silent P (kept (Ok s)) ≡ sheet_line (ascii "device ") s.n s.e
unfolding device_lines silent
device_read P s = append-nil (sheet_line (ascii "device ") s.n s.e)

pub device_refused : (P : Sheet) (cause : Refusal) → device_lines silent P (kept (Err cause)) ≡ number_line (ascii "device refused ") (number cause)
unfolding device_lines
device_refused P cause = rw (number_not cause)

-- the lines of both sheets
pub pair_read : (s : Sheet) (b : Result Sheet Refusal) → sheets_lines silent (kept (Ok s)) (kept b) ≡ sheet_line (ascii "reference ") s.n s.e ++ device_lines silent s (kept b)
unfolding sheets_lines
pair_read s b = refl

pub pair_refused : (cause : Refusal) (b : Result Sheet Refusal) → sheets_lines silent (kept (Err cause)) (kept b) ≡ number_line (ascii "reference refused ") (number cause)
unfolding sheets_lines
pair_refused cause b = rw (number_not cause)

-- the two sheets of an input, with their lines put
pub opens_of : (input : List ℕ) (a b : Result Sheet Refusal) {before after : Page} → kept a ≡ read_sheet (first_sheet input) → kept b ≡ read_sheet (second_sheet input)
    → Puts (sheets_lines silent (kept a) (kept b)) before after → Opens input before after a b
unfolding input_lines
opens_of input a b e f p = record { reference_is = e; device_is = f; put = rw (e, f) at p }
