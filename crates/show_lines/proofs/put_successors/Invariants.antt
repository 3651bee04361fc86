-- After i rounds the lines of the events below i are put.
use Rattle.base.specs.Joined.{joined}
use Rattle.text.specs.Pages.{Puts}
use Rattle.text_sheet_spec.specs.Show.{successor_line}
use Rattle.show_lines.proofs.put_successors.Given as goal

abbrev pub invariant-loop-i : goal.invariant-loop-i
invariant-loop-i l = Puts (joined (successor_line l.row) l.i) l.initial.page l.page
