use Rattle.std.proofs.Common.{sym, ◌∙◌, arith, lt-ltb}
use Rattle.base.proofs.Range.{first_is, first_none}
use Rattle.events.specs.Sets.{has}
use Rattle.comparison.specs.Told.{least_event}
use Rattle.comparison.proofs.named.Names.{fails_more}
use Rattle.comparison.proofs.named.first_event.Goals as goal

pub loop-i-init : goal.loop-i-init
loop-i-init c = (omega arith, λ k l. absurd (omega arith))

pub returns-then-contains : goal.returns-then-contains
unfolding least_event
returns-then-contains c =
    let l = c.loop-i in
    let t = rw c.from.ensures at (sym c.contains.ensures ∙ c.if-contains.true) in
    rw (first_is (has c.args.set) 12 l.i (omega arith) l.invariant.1 t, lt-ltb l.i 12 (omega arith))

pub loop-i-preserved : goal.loop-i-preserved
loop-i-preserved c =
    let l = c.loop-i in
    (omega arith, fails_more (has c.args.set) l.i l.invariant.1 (rw c.from.ensures at (sym c.contains.ensures ∙ c.if-contains.false)))

pub returns : goal.returns
unfolding least_event
returns c =
    let l = c.loop-i in
    rw (first_none (has c.args.set) 12 (λ k h. l.invariant.1 k (omega arith)))
