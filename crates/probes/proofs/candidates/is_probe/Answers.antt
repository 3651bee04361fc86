use Rattle.std.proofs.Common.{Bool, ◌&&◌, sym, ap, ◌∙◌, arith}
use Rattle.probes_spec.proofs.ShapeLaws.{one_pass_is_probe}
use Rattle.probes.proofs.candidates.Passes.{pass_next, pass_end}
use Rattle.probes.proofs.candidates.is_probe.Goals as goal

pub loop-set-preserved : goal.loop-set-preserved
loop-set-preserved c =
    rw c.lone_of-own.ensures (pass_next c.args.sets.now c.loop-set.set-index c.args.x c.loop-set.own (omega arith) c.loop-set.met) ∙ c.loop-set.invariant

pub returns : goal.returns
returns c =
    ap (λ (b : Bool). c.loop-set.met && b) (sym (pass_end c.args.sets.now c.loop-set.set-index c.args.x c.loop-set.own (omega arith)))
    ∙ c.loop-set.invariant ∙ one_pass_is_probe c.args.sets.now c.args.x
