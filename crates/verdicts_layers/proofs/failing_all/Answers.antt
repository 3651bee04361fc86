-- The tables are those of the law.
use native.Mathlib.Omega.{arith}
use Rattle.verdicts_layers.proofs.Fails.{failing_all}
use Rattle.verdicts_layers.proofs.failing_all.Goals as goal

pub returns : goal.returns
returns c =
    let a = c.args in
    failing_all a.trace_only a.mine a.theirs a.p a.q a.e (omega arith) (omega arith) (omega arith) a.out.now a.total (omega arith) (omega arith) c.tables_of.ensures c.write_verdicts.ensures
