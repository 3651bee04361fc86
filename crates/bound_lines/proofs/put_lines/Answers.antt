-- The lines of the two sheets and of the test, one after another.
use Rattle.std.proofs.Common.{◌∙◌}
use Rattle.text.proofs.PageLaws.{puts_then}
use Rattle.bound_lines_spec.specs.Lines.{bound_lines}
use Rattle.bound_lines.proofs.put_lines.Goals as goal

pub returns-in-Ok : goal.returns-in-Ok
unfolding bound_lines
returns-in-Ok c =
    let t = c.put_number_line.ensures in
    rw c.in-Ok.is (puts_then c.put_bytes_line.ensures (puts_then c.put_bytes_line-in-Ok.ensures (rw (t.1 ∙ c.last_test.ensures) at t.2)))
