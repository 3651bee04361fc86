-- The lines, one after another.
use Rattle.text.proofs.PageLaws.{puts_then}
use Rattle.script_counts_lines_spec.specs.Lines.{count_lines}
use Rattle.script_counts_lines.proofs.put_counts.Goals as goal

pub returns : goal.returns
unfolding count_lines
returns c =
    let w = c.put_number_line.ensures in
    let d = c.put_number_line-2.ensures in
    let r = c.put_number_line-3.ensures in
    let e = c.put_number_line-4.ensures in
    puts_then c.put_total.ensures (puts_then (rw w.1 at w.2) (puts_then (rw d.1 at d.2) (puts_then (rw r.1 at r.2) (rw e.1 at e.2))))
