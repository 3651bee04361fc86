-- How the lines of an input are made up: one law for each way out.
use Rattle.std.specs.Prelude.{◌≡◌, List, ℕ, Result, Ok, Err, take, drop}
use Rattle.std.proofs.Common.{ap, ◌∙◌, append-nil, arith, ne_eqb}
use Rattle.refusals.specs.declared.Refusal.{Refusal}
use Rattle.refusals.specs.Numbers.{number}
use Rattle.refusals.proofs.NumberLaws.{number_some}
use Rattle.sheet_spec.specs.declared.Sheet.{Sheet}
use Rattle.sheet_spec.specs.Reading.{kept, read_sheet}
use Rattle.text.specs.declared.Page.{Page}
use Rattle.text.specs.Pages.{Puts}
use Rattle.text.proofs.PageLaws.{puts_then}
use Rattle.text_sheet_spec.specs.Head.{head_line}
use Rattle.text_pair_spec.specs.Split.{first_end, first_sheet}
use Rattle.text_pair_spec.proofs.SplitLaws.{first_is, second_from}
use Rattle.keypad_check_lines_spec.specs.declared.AskedCode.{AskedCode}
use Rattle.keypad_check_lines_spec.specs.Program.{table_lines, read_lines, input_lines}

module _ (asked : AskedCode) (input : List ℕ) {end : ℕ} (at : end ≡ first_end input) {first : List ℕ} (front : first ≡ take end input)
    (r : Result Sheet Refusal) (e : kept r ≡ read_sheet first) where
  read_is : kept r ≡ read_sheet (first_sheet input)
  read_is = e ∙ ap read_sheet (front ∙ first_is input at)

  -- a refused sheet's line is the last
  pub sheet_alone : {cause : Refusal} {before after : Page} → r ≡ Err cause → Puts (head_line (kept r)) before after → Puts (input_lines asked input) before after
  unfolding input_lines read_lines
  sheet_alone {cause} n p =
      rw (← read_is, n, ne_eqb (number cause) 0 (λ z. omega (arith, number_some cause, z)), append-nil (head_line (kept (Err cause)))) (rw n at p)

  -- after an accepted sheet's line come those of the table
  pub sheet_and_table : {s : Sheet} {second : List ℕ} {before after last : Page} → r ≡ Ok s → second ≡ drop end input → Puts (head_line (kept r)) before after
      → Puts (table_lines asked s second) after last → Puts (input_lines asked input) before last
  unfolding input_lines read_lines
  sheet_and_table z q p t = rw (← read_is, z, ← (q ∙ second_from input at)) (puts_then (rw z at p) t)
