-- How the lines of an input are made up: one law for each way out.
use Rattle.std.specs.Prelude.{◌≡◌, List, ℕ, Result, Ok, Err}
use Rattle.std.proofs.Common.{append-nil, arith, ne_eqb}
use Rattle.refusals.specs.declared.Refusal.{Refusal}
use Rattle.refusals.specs.Numbers.{number}
use Rattle.refusals.proofs.NumberLaws.{number_some}
use Rattle.sheet_spec.specs.declared.Sheet.{Sheet}
use Rattle.sheet_spec.specs.Reading.{kept, read_sheet}
use Rattle.text_spec.specs.Input.{cut_input}
use Rattle.text.specs.declared.Page.{Page}
use Rattle.text.specs.Pages.{Puts}
use Rattle.text.proofs.PageLaws.{puts_then}
use Rattle.text_sheet_spec.specs.Head.{head_line}
use Rattle.walk_lines_spec.specs.Program.{seed_of, wish_of, walked_lines, read_lines, walk_text}

module _ (seed wish input : List ℕ) (r : Result Sheet Refusal) (e : kept r ≡ read_sheet (cut_input input)) where
  -- a refused sheet's line is the last
  pub sheet_alone : {cause : Refusal} {before after : Page} → r ≡ Err cause → Puts (head_line (kept r)) before after → Puts (walk_text seed wish input) before after
  unfolding walk_text read_lines
  sheet_alone {cause} n p =
      rw (← e, n, ne_eqb (number cause) 0 (λ z. omega (arith, number_some cause, z)), append-nil (head_line (kept (Err cause)))) (rw n at p)

  -- after an accepted sheet's line come those of the walk
  pub sheet_and_walk : {s : Sheet} {x y : ℕ} {before after last : Page} → r ≡ Ok s → x ≡ seed_of seed → y ≡ wish_of wish → Puts (head_line (kept r)) before after
      → Puts (walked_lines x y s) after last → Puts (walk_text seed wish input) before last
  unfolding walk_text read_lines
  sheet_and_walk z q u p t = rw (← e, z, ← q, ← u) (puts_then (rw z at p) t)
