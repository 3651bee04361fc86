use native.Mathlib.Omega.{arith}
use mathlib.Core.Path.{◌≡◌}
use Rattle.events.proofs.ListLaws.{events_few}
use Rattle.sheet_rows.specs.Tables.{initials_in}
use Rattle.load.proofs.Lists.{none_tabled, node_tabled}
use Rattle.load.proofs.list_initials.Goals as goal

pub loop-v-init : goal.loop-v-init
loop-v-init c = (omega arith, none_tabled _ _ _ _ c.requires.1 c.requires.2)

pub list_events-count-requires : goal.list_events-count-requires
list_events-count-requires c = (omega arith, c.loop-v.invariant.1.lists_long)

pub overflow_cast-counts : goal.overflow_cast-counts
overflow_cast-counts c = omega (arith, c.list_events-count.ensures.0, events_few c.initials_of-set.result 12)

pub bounds-counts-v : goal.bounds-counts-v
bounds-counts-v c = omega (arith, c.loop-v.invariant.1.counts_long)

pub loop-v-preserved : goal.loop-v-preserved
unfolding initials_in
loop-v-preserved c = (omega arith, node_tabled c.loop-v.invariant.1 (omega arith) c.initials_of-set.ensures c.list_events-count.ensures.1 c.list_events-count.ensures.0)

pub returns : goal.returns
returns c = let e : c.loop-v.v ≡ c.args.n = omega arith in rw (← e) c.loop-v.invariant.1
