use mathlib.Core.Path.{◌≡◌, refl}
use native.Mathlib.Numerals.{add-one}
use native.Mathlib.Omega.{arith}
use Rattle.sheet_rules.specs.ReachShapes.{grown}
use Rattle.sheet_rules.proofs.reached.grow.Goals as goal

pub loop-u-init : goal.loop-u-init
unfolding grown
loop-u-init c = (refl, omega arith)

pub loop-u-preserved : goal.loop-u-preserved
unfolding grown
loop-u-preserved c = (rw add-one (cc), omega arith)

pub returns : goal.returns
returns c = let e : c.loop-u.u ≡ c.args.n = omega arith in cc
