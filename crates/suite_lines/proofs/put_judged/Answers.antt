-- The answer and the verdicts are those of the definition, over a list of zeros.
use Rattle.suite_lines.proofs.Steps.{room_of, judged_is}
use Rattle.suite_lines.proofs.put_judged.Goals as goal

pub put_suite-requires : goal.put_suite-requires
put_suite-requires c = room_of _ _ _ _ c.judge_all-judged.ensures.0 c.judge_all-judged.ensures.2

pub returns : goal.returns
returns c =
    let k = c.judge_all-judged.ensures in
    rw (c.test_count.ensures, judged_is c.args.p c.args.q _ k.0 k.2) at c.put_suite.ensures
