-- Nothing to believe: laws. The findings after the lines of the sheets make the text; where a sheet is refused, the
-- lines of the sheets are the text.
use Rattle.std.specs.Prelude.{◌≡◌, Bool, true, false, ◌&&◌, cond, List, [], ◌++◌, ℕ, eqb, Option, Some, None, Result, Ok, Err, refl}
use Rattle.std.specs.Option.{option_zip}
use Rattle.std.specs.Result.{result_ok}
use Rattle.std.proofs.Common.{sym, ap, ◌∙◌, arith, ne_eqb, append_assoc, append-nil}
use Rattle.refusals.specs.declared.Refusal.{Refusal}
use Rattle.refusals.specs.Numbers.{number}
use Rattle.refusals.proofs.NumberLaws.{number_some}
use Rattle.sheet_spec.specs.declared.Sheet.{Sheet}
use Rattle.sheet_spec.specs.declared.ReadSheet.{ReadSheet}
use Rattle.sheet_spec.specs.Reading.{kept, read_sheet}
use Rattle.text_spec.specs.Lines.{ascii, number_line, sheet_line}
use Rattle.text_pair_spec.specs.Split.{first_sheet, second_sheet}
use Rattle.text.specs.declared.Page.{Page}
use Rattle.text.specs.Pages.{Puts}
use Rattle.text.proofs.PageLaws.{puts_then}
use Rattle.text_pair_spec.specs.Program.{Findings, device_lines, sheets_lines, input_lines}
use Rattle.text_pair_spec.specs.Opening.{silent, both_read, Opens}

-- the text is the lines of the sheets, and after two accepted ones the findings
pub findings_last : (findings : Findings) (a b : ReadSheet) → sheets_lines findings a b ≡ sheets_lines silent a b ++ cond (both_read a b) (findings a.sheet b.sheet) []
unfolding both_read sheets_lines device_lines silent
findings_last findings a b =
    go (eqb a.refusal 0) (eqb b.refusal 0) (sheet_line (ascii "reference ") a.sheet.n a.sheet.e) (number_line (ascii "reference refused ") a.refusal)
    (sheet_line (ascii "device ") b.sheet.n b.sheet.e) (number_line (ascii "device refused ") b.refusal) (findings a.sheet b.sheet)
  where
    go : (x y : Bool) (p m q n j : List ℕ) → cond x (p ++ cond y (q ++ j) n) m ≡ cond x (p ++ cond y (q ++ []) n) m ++ cond (x && y) j []
    go true true p m q n j = rw (append-nil q) (sym (append_assoc p q j))
    go true false p m q n j = sym (append-nil (p ++ n))
    go false y p m q n j = sym (append-nil m)

-- no refusal is 0
number_not : (cause : Refusal) → eqb (number cause) 0 ≡ false
number_not cause = ne_eqb (number cause) 0 (λ e. omega (arith, number_some cause))

-- what a program prints after the lines of two sheets: its findings where both are accepted
unfoldable found : Findings → Option (Sheet × Sheet) → List ℕ
found findings None = []
found findings (Some (p, q)) = findings p q

-- the two sheets that were read, if both are accepted
abbrev both : Result Sheet Refusal → Result Sheet Refusal → Option (Sheet × Sheet)
both a b = option_zip (result_ok a) (result_ok b)

module _ (findings : Findings) {input : List ℕ} {before after : Page} {reference device : Result Sheet Refusal} (o : Opens input before after reference device) where
  whole : input_lines findings input ≡ input_lines silent input ++ found findings (both reference device)
  unfolding input_lines both_read found
  whole =
      rw (← o.reference_is, ← o.device_is)
      (findings_last findings (kept reference) (kept device) ∙ ap (λ (l : List ℕ). sheets_lines silent (kept reference) (kept device) ++ l) (each reference device))
    where
      each : (a b : Result Sheet Refusal) → cond (both_read (kept a) (kept b)) (findings (kept a).sheet (kept b).sheet) [] ≡ found findings (both a b)
      each (Ok p) (Ok q) = refl
      each (Ok p) (Err cause) = rw (number_not cause)
      each (Err cause) b = rw (number_not cause)

  -- what a program puts after two accepted sheets makes its text
  pub opens_found : {p q : Sheet} {last : Page} → both reference device ≡ Some (p, q) → Puts (findings p q) after last → Puts (input_lines findings input) before last
  unfolding found
  opens_found h p = rw (whole, h) (puts_then o.put p)

  -- where a sheet is refused, the lines of the sheets are the program's text
  pub opens_refused : both reference device ≡ None → Puts (input_lines findings input) before after
  unfolding found
  opens_refused h = rw (whole, h, append-nil (input_lines silent input)) o.put
