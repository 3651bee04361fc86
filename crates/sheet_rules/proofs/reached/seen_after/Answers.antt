use mathlib.Core.Path.{◌≡◌, refl}
use native.Mathlib.Omega.{arith}
use native.Mathlib.Numerals.{add-one}
use Rattle.sheet_rules.specs.ReachShapes.{rounds}
use Rattle.sheet_rules.proofs.reached.seen_after.Goals as goal

pub loop-k-init : goal.loop-k-init
unfolding rounds
loop-k-init c = (refl, omega arith)

pub loop-k-preserved : goal.loop-k-preserved
unfolding rounds
loop-k-preserved c = (rw add-one (cc), omega arith)

pub returns : goal.returns
returns c = let e : c.loop-k.k ≡ c.args.n = omega arith in cc
