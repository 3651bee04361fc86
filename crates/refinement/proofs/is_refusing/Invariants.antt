-- Each of the others so far includes one of the sets.
use Rattle.std.specs.Prelude.{◌≡◌, false, take}
use Rattle.refinement.specs.Shapes.{refusing}
use Rattle.refinement.proofs.is_refusing.Given as goal

abbrev pub invariant-loop-x : goal.invariant-loop-x
invariant-loop-x l = refusing l.sets (take l.x-index l.others) ≡ false
