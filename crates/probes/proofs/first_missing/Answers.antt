-- Each round takes one probe, or one acceptance, off what is left; at the first miss the label leaves both loops.
use Rattle.std.proofs.Common.{sym, ◌∙◌, arith}
use Rattle.probes.proofs.Misses.{miss_at, miss_more, miss_end, named_at, named_more, named_end}
use Rattle.probes.proofs.first_missing.Goals as goal

pub loop-acceptance-preserved : goal.loop-acceptance-preserved
loop-acceptance-preserved c = (
  c.loop-acceptance.invariant.0,
  sym (miss_more c.args.device.now c.loop-acceptance.acceptance-index _ (omega arith) c.if-probe-acceptance-eq0.false) ∙ c.loop-acceptance.invariant.1,
)

pub probes-preserved : goal.probes-preserved
probes-preserved c =
    let m = sym c.loop-acceptance.invariant.1 ∙ miss_end c.args.device.now c.loop-acceptance.acceptance-index _ (omega arith) in (
      c.loop-acceptance.invariant.0,
      sym (named_more c.args.list.now c.args.device.now c.probes.probe-index (omega arith) m) ∙ c.probes.invariant.1,
    )

pub returns-after-probes : goal.returns-after-probes
returns-after-probes c =
    c.probes.invariant.0 ∙ sym (named_end c.args.list.now c.args.device.now c.probes.probe-index (omega arith)) ∙ c.probes.invariant.1

pub returns-then-probe-acceptance-eq0 : goal.returns-then-probe-acceptance-eq0
returns-then-probe-acceptance-eq0 c =
    let m = sym c.loop-acceptance.invariant.1 ∙ miss_at c.args.device.now c.loop-acceptance.acceptance-index _ (omega arith) c.if-probe-acceptance-eq0.true in
    sym (named_at c.args.list.now c.args.device.now c.probes.probe-index (omega arith) _ m) ∙ c.probes.invariant.1
