-- A refusal has its line.
use Rattle.live_lines_spec.specs.Answers.{opening_lines}
use Rattle.live_lines.proofs.put_test.Goals as goal

pub returns-in-Denied : goal.returns-in-Denied
unfolding opening_lines
returns-in-Denied c = rw c.in-Denied.is (c.put_test_refused.ensures c.args.asked c.args.n c.args.e)
