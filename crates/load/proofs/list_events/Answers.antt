use native.Mathlib.Omega.{arith}
use mathlib.Core.Path.{◌≡◌, refl}
use Prim.Native.Nat.{◌+◌}
use Rattle.base.specs.Gather.{gather, select}
use Rattle.events.specs.Lists.{events_in}
use Rattle.events.proofs.ListLaws.{events_few}
use Rattle.load.proofs.Lists.{none_listed, listed_next}
use Rattle.load.proofs.list_events.Goals as goal

pub loop-i-init : goal.loop-i-init
loop-i-init c = (omega arith, omega arith, unfold events_in select gather in refl, none_listed _ _ _)

pub bounds-lists-v : goal.bounds-lists-v
bounds-lists-v c = omega (arith, c.loop-i.invariant.3.long)

pub count_with-count-requires : goal.count_with-count-requires
count_with-count-requires c = (omega arith, omega arith)

pub loop-i-preserved : goal.loop-i-preserved
loop-i-preserved c = let w = listed_next c.loop-i.invariant.3 c.loop-i.invariant.2 (omega (arith, c.loop-i.invariant.3.long)) refl c.count_with-count.result c.count_with-count.ensures in (omega arith, omega (arith, w.1, events_few c.args.set (c.loop-i.i + 1)), w.1, w.0)

pub returns : goal.returns
returns c = let e : c.loop-i.i ≡ 12 = omega arith in (rw (← e) c.loop-i.invariant.2, rw (← e) c.loop-i.invariant.3)
