-- The text of an input from the sheet that was read of it: the first line alone, or with the lines of the codes and of
-- the nodes.
use Rattle.std.specs.Prelude.{◌≡◌, refl, List, ℕ, ◌≤◌, take, Ok, Err}
use Rattle.std.proofs.Common.{arith}
use Rattle.base.specs.Joined.{joined}
use Rattle.refusals.specs.declared.Refusal.{Refusal}
use Rattle.refusals.proofs.NumberLaws.{number_some}
use Rattle.sheet_spec.specs.declared.Sheet.{Sheet}
use Rattle.sheet_spec.specs.Reading.{read_sheet, kept}
use Rattle.text_spec.specs.Input.{cut_input}
use Rattle.text.specs.declared.Page.{Page}
use Rattle.text.specs.Pages.{Puts}
use Rattle.text.proofs.PageLaws.{puts_then, pieces, joins, page_holds}
use Rattle.text_sheet_spec.specs.Head.{head_line}
use Rattle.text_sheet_spec.specs.Show.{codes_lines, node_lines, show_text}
use Rattle.text_sheet_spec.proofs.ShowLaws.{codes_first, codes_other, successor_none, successor_some, rest_stop, rest_accepts, show_accepted, show_refused, read_events, read_nodes}

-- the text of a refused sheet is its first line
pub refused_shown : (input : List ℕ) (cause : Refusal) → kept (Err cause) ≡ read_sheet (take 4096 input)
    → {p q : Page} → Puts (head_line (kept (Err cause))) p q → Puts (show_text input) p q
unfolding show_text cut_input
refused_shown input cause e h = rw (← e, show_refused (kept (Err cause)) (λ z. omega (arith, number_some cause))) h

module _ (input : List ℕ) (s : Sheet) (e : kept (Ok s) ≡ read_sheet (take 4096 input)) where
  -- the text of an accepted sheet is its first line, the lines of its codes and the lines of its nodes
  pub nodes_shown : {p q r t : Page} → Puts (head_line (kept (Ok s))) p q → Puts (codes_lines s.e s.codes) q r → Puts (joined (node_lines s) s.n) r t → Puts (show_text input) p t
  unfolding show_text cut_input
  nodes_shown h f g = rw (← e, show_accepted (kept (Ok s)) refl) (puts_then h (puts_then f g))

  -- an accepted sheet has at most 12 events
  pub events_few : s.e ≤ 12
  events_few = rw (← e) at (read_events (take 4096 input) (rw (← e) refl))

  -- an accepted sheet has at most 32 nodes
  pub nodes_few : s.n ≤ 32
  nodes_few = rw (← e) at (read_nodes (take 4096 input) (rw (← e) refl))

-- for the functions that put the lines: chains of pieces, loops over texts, and each choice
pub ruleset lines = (pieces, joins, successor_none, successor_some, page_holds)

pub ruleset codes = (pieces, joins, codes_first, codes_other)

pub ruleset rest = (joins, rest_stop, rest_accepts)
