-- `candidates::lone_of`: a set and its predecessor have no event in common exactly if the set has at most one.
use Rattle.std.proofs.Common.{arith}
use Rattle.probes.proofs.candidates.Passes.{lone_yes, lone_no}
use Rattle.probes.proofs.candidates.lone_of.Goals as goal

pub returns-then-y-eq0 : goal.returns-then-y-eq0
returns-then-y-eq0 c = lone_yes _ _ (λ l. omega arith) c.if-y-eq0.true

pub returns-else-y-eq0 : goal.returns-else-y-eq0
returns-else-y-eq0 c = lone_no _ _ (λ l. omega arith) c.if-y-eq0.false
