-- Whatever is asked for, the reference's refusal is all that is printed.
use Rattle.std.proofs.Common.{ne_eqb}
use Rattle.live_lines_spec.specs.Answers.{opening_lines}
use Rattle.live_lines.proofs.put_reference_refused.Goals as goal

pub returns : goal.returns
unfolding opening_lines
returns c asked n e answer z = let w = c.put_number_line.ensures in rw (ne_eqb c.args.number 0 z) (rw w.1 at w.2)
