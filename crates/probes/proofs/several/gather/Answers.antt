use Rattle.std.proofs.Common.{length, ap, ◌∙◌, arith}
use Rattle.base.specs.Front.{at_front}
use Rattle.probes.proofs.several.Gathered.{of, all_of, lists_none, lists_more, lists_count}
use Rattle.probes.proofs.several.gather.Goals as goal

pub loop-v-init : goal.loop-v-init
loop-v-init c = let w = lists_none (of c.args.sheet c.args.nodes) c.args.out.now in (c.from-v-end.ensures, w.0, w.1, omega arith)

pub loop-v-preserved : goal.loop-v-preserved
loop-v-preserved c =
    let f = of c.args.sheet c.args.nodes in (
      c.loop-v.invariant.0,
      c.put_node-at.ensures.1 ∙ omega (arith, c.loop-v.invariant.1, lists_count f c.loop-v.v),
      lists_more f c.args.out.now c.loop-v.out c.put_node-at.new.out c.loop-v.v c.loop-v.at c.loop-v.invariant.2 c.loop-v.invariant.1 c.put_node-at.ensures.0,
      omega (arith, c.put_node-at.auto.out, c.loop-v.invariant.3),
    )

pub returns : goal.returns
returns c =
    let e = all_of c.args.sheet c.args.nodes c.loop-v.v (omega arith) in
    (c.loop-v.invariant.2 ∙ ap (at_front c.args.out.now) e, c.loop-v.invariant.1 ∙ ap length e)
