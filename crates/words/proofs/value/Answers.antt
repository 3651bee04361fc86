use Rattle.std.proofs.Common.{arith}
use Rattle.words.proofs.Digits.{value_below, value_next, value_done}
use Rattle.words.proofs.value.Goals as goal

pub loop-b-preserved : goal.loop-b-preserved
loop-b-preserved c =
    let l = c.loop-b in
    let d = c.requires.each l.b-index (omega arith) in
    record { small = rw c.from.ensures (value_below l.b-index l.v _ l.invariant.small d.1); whole = rw c.from.ensures (value_next c.args.bytes.now l.b-index l.v (omega arith) l.invariant.whole) }

pub returns : goal.returns
returns c = value_done c.args.bytes.now c.loop-b.b-index c.loop-b.v (omega arith) c.loop-b.invariant.whole
