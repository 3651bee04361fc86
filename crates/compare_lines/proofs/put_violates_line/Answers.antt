-- The words and numbers of the line.
use Rattle.compare_lines_spec.specs.Lines.{violates_line}
use Rattle.compare_lines.proofs.put_violates_line.Goals as goal

pub returns : goal.returns
unfolding violates_line
returns c = let e = c.put_numbers.ensures in rw (e.2, e.3) at e.4
