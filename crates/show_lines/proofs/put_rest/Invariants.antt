-- After j rounds the lines of the acceptances before place j are put.
use Rattle.base.specs.Joined.{joined}
use Rattle.text.specs.Pages.{Puts}
use Rattle.text_sheet_spec.specs.Show.{acceptance_line}
use Rattle.show_lines.proofs.put_rest.Given as goal

abbrev pub invariant-loop-j : goal.invariant-loop-j
invariant-loop-j l = Puts (joined (acceptance_line l.row) l.j) l.initial.page l.page
