use mathlib.Core.Path.{◌≡◌, refl, ◌∙◌}
use native.Mathlib.Omega.{arith}
use lib.ListN.{length-set}
use Rattle.search_theory.proofs.Read.{front_none, front_next}
use Rattle.search.proofs.trace_back.put_front.Goals as goal

pub loop-i-init : goal.loop-i-init
loop-i-init c = (omega arith, front_none _ _, refl)

pub loop-i-preserved : goal.loop-i-preserved
loop-i-preserved c =
    let l = c.loop-i in (
      omega arith,
      front_next _ _ l.trace l.i (omega arith) l.invariant.1,
      length-set l.trace l.i _ ∙ l.invariant.2,
    )

pub shape_of-trace : goal.shape_of-trace
shape_of-trace c = c.loop-i.invariant.2

pub returns : goal.returns
returns c = let e : c.loop-i.i ≡ c.args.d = omega arith in rw e at c.loop-i.invariant.1
