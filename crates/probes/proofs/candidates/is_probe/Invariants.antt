-- `candidates::is_probe`. The loop's invariant: the pass over what is left of the acceptances, where those before are
-- met, gives the answer of the whole pass.
use Rattle.std.proofs.Common.{◌≡◌, ◌&&◌, drop}
use Rattle.probes_spec.specs.Shapes.{one_pass}
use Rattle.probes.proofs.candidates.is_probe.Given as goal

abbrev pub invariant-loop-set : goal.invariant-loop-set
invariant-loop-set l = (l.met && one_pass (drop l.set-index l.sets) l.x l.own) ≡ one_pass l.sets l.x 0
