-- No set so far is inside the given one.
use Rattle.std.specs.Prelude.{◌≡◌, false, take}
use Rattle.refinement.specs.Shapes.{covering}
use Rattle.refinement.proofs.is_covering.Given as goal

abbrev pub invariant-loop-x : goal.invariant-loop-x
invariant-loop-x l = covering (take l.x-index l.sets) l.set ≡ false
