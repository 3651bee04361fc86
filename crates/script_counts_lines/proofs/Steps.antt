-- The lines of an answer are those of the definition: without a refusal the three counts sum to all scripts.
use Rattle.std.specs.Prelude.{◌≡◌, List, ℕ, Result, Ok, Err, ◌+◌, ◌≤◌}
use Rattle.std.proofs.Common.{sym, ap, ◌∙◌, arith, eq-eqb, ne_eqb}
use Rattle.refusals.specs.declared.Refusal.{Refusal}
use Rattle.refusals.specs.Numbers.{number}
use Rattle.refusals.proofs.NumberLaws.{number_some}
use Rattle.sheet_spec.specs.declared.Sheet.{Sheet}
use Rattle.scripts_spec.specs.declared.Counts.{Counts}
use Rattle.scripts_spec.specs.declared.Scripts.{Scripts}
use Rattle.scripts_spec.specs.Scripts.{scripts_of, counted}
use Rattle.scripts_spec.proofs.CallLaws.{scripts_refusal, told_sum}
use Rattle.text_spec.specs.Lines.{ascii, number_line}
use Rattle.text.specs.declared.Page.{Page}
use Rattle.text.specs.Pages.{Puts}
use Rattle.script_counts_lines_spec.specs.Lines.{count_lines, scripts_lines}
use Rattle.script_counts_lines_spec.specs.Program.{length_of, counted_lines}
use Rattle.script_counts_lines_spec.proofs.Lengths.{sum_few}

module _ (P Q : Sheet) (L : ℕ) (r : Result Counts Refusal) (e : counted r ≡ scripts_of P Q L) where
  module _ {c : Counts} (z : r ≡ Ok c) where
    given : record { refusal = 0; walked = c.walked; device = c.device; reference = c.reference } ≡ scripts_of P Q L
    unfolding counted
    given = rw z at e

    -- the counts of the call's answer sum to a number of 64 bits
    pub counts_fit : c.walked + (c.device + c.reference) ≤ 184884258895036416
    counts_fit = rw (← given) at (sum_few P Q L)

    -- without a refusal the lines of the counts are put
    pub puts_counts : (word : List ℕ) {before after : Page} → L ≡ length_of word
        → Puts (count_lines L (c.walked + (c.device + c.reference)) c.walked c.device c.reference) before after → Puts (counted_lines word P Q) before after
    unfolding counted_lines scripts_lines
    puts_counts word l p =
        let f : (scripts_of P Q L).refusal ≡ 0 = sym (ap (λ (x : Scripts). x.refusal) given) in
        rw (← l, eq-eqb (scripts_of P Q L).refusal 0 f, ← told_sum P Q L (sym (scripts_refusal P Q L) ∙ f), ← given) p

  -- with one, its line
  pub puts_refused : {cause : Refusal} → r ≡ Err cause → (word : List ℕ) {before after : Page} → L ≡ length_of word
      → Puts (number_line (ascii "scripts refused ") (number cause)) before after → Puts (counted_lines word P Q) before after
  unfolding counted_lines scripts_lines counted
  puts_refused {cause} z word l p = rw (← l, ← e, z, ne_eqb (number cause) 0 (λ q. omega (arith, number_some cause, q))) p
