-- After v rounds the lines of the nodes below v are put.
use Rattle.base.specs.Joined.{joined}
use Rattle.text.specs.Pages.{Puts}
use Rattle.text_sheet_spec.specs.Show.{node_lines}
use Rattle.show_lines.proofs.put_nodes.Given as goal

abbrev pub invariant-loop-v : goal.invariant-loop-v
invariant-loop-v l = Puts (joined (node_lines l.s) l.v) l.initial.page l.page
