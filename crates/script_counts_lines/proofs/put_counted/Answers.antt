-- The answer is that of the definition, so its lines are.
use Rattle.script_counts_lines.proofs.Steps.{counts_fit, puts_counts, puts_refused}
use Rattle.script_counts_lines.proofs.put_counted.Goals as goal

pub put_counts-requires : goal.put_counts-requires
put_counts-requires c = counts_fit _ _ _ _ c.count.ensures c.in-Ok.is

pub returns-in-Ok : goal.returns-in-Ok
returns-in-Ok c = puts_counts _ _ _ _ c.count.ensures c.in-Ok.is c.args.word.now c.length_of-length.ensures c.put_counts.ensures

pub returns-in-Err : goal.returns-in-Err
returns-in-Err c = puts_refused _ _ _ _ c.count.ensures c.in-Err.is c.args.word.now c.length_of-length.ensures c.put_refusal_line.ensures
