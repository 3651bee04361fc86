-- The part of the text in which the findings have no say: the lines of the two sheets.
use Rattle.std.specs.Prelude.{◌≡◌, Bool, ◌&&◌, List, [], ℕ, eqb, Result}
use Rattle.refusals.specs.declared.Refusal.{Refusal}
use Rattle.sheet_spec.specs.declared.Sheet.{Sheet}
use Rattle.sheet_spec.specs.declared.ReadSheet.{ReadSheet}
use Rattle.sheet_spec.specs.Reading.{kept, read_sheet}
use Rattle.text_pair_spec.specs.Split.{first_sheet, second_sheet}
use Rattle.text.specs.declared.Page.{Page}
use Rattle.text.specs.Pages.{Puts}
use Rattle.text_pair_spec.specs.Program.{Findings, input_lines}

-- no findings: only the lines of the sheets are printed
unfoldable pub silent : Findings
silent P Q = []

-- both sheets are accepted
unfoldable pub both_read : ReadSheet → ReadSheet → Bool
both_read a b = eqb a.refusal 0 && eqb b.refusal 0

-- an input that is not too long was read: the sheets, the reference and the device, are those that it holds, each with
-- its own refusal, and their lines were put on a page
pub record Opens (input : List ℕ) (before after : Page) (reference device : Result Sheet Refusal) : Type 0 where
  pub reference_is : kept reference ≡ read_sheet (first_sheet input)
  pub device_is : kept device ≡ read_sheet (second_sheet input)
  pub put : Puts (input_lines silent input) before after
