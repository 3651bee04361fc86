-- The answer and the trace are those of the definition, over lists of zeros.
use Rattle.compare_lines.proofs.Compared.{compared_is}
use Rattle.compare_lines.proofs.put_compared.Goals as goal

pub returns : goal.returns
returns c = rw (compared_is c.args.p c.args.q c.compare-outcome.ensures.answer c.compare-outcome.ensures.traced) at c.put_outcome.ensures
