use native.Mathlib.Omega.{arith}
use Rattle.verdicts_layers.proofs.Rounds.{judged_none, judged_more}
use Rattle.verdicts_layers.proofs.write_verdicts.Goals as goal

pub loop-k-init : goal.loop-k-init
loop-k-init c = judged_none _ _ _ _ _ _ _ _ c.first_layer-layer.ensures

pub loop-k-preserved : goal.loop-k-preserved
loop-k-preserved c = judged_more _ _ _ _ _ _ _ _ c.loop-k.invariant (omega arith) (omega arith) c.kind_at.ensures c.is_faulty-faulty.ensures c.next-after.ensures
