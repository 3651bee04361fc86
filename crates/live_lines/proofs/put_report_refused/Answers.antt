-- The pieces of the line, one after another.
use Rattle.text.proofs.PageLaws.{puts_then}
use Rattle.live_lines_spec.specs.Answers.{report_refused_line}
use Rattle.live_lines.proofs.put_report_refused.Goals as goal

pub returns : goal.returns
unfolding report_refused_line
returns c =
    let n = c.put_number.ensures in
    puts_then c.put.ensures (puts_then (rw n.1 at n.2) (puts_then c.put-2.ensures (puts_then (rw c.why.ensures at c.put-3.ensures) c.put-4.ensures)))
