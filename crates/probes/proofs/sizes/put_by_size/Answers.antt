use Rattle.std.proofs.Common.{◌≡◌, ℕ, suc, ◌+◌, refl, ap, ◌∙◌, arith}
use Rattle.base.specs.Front.{at_front}
use Rattle.base.specs.Joined.{joined}
use Rattle.probes_spec.specs.Shapes.{of_size}
use Rattle.probes.proofs.sizes.Sized.{size_none, size_more, size_count, size_room}
use Rattle.probes.proofs.sizes.put_by_size.Goals as goal

pub loop-size-init : goal.loop-size-init
loop-size-init c = ((size_none c.args.found.now).0, (size_none c.args.found.now).1 c.args.out.now, refl)

pub put_size-at-requires : goal.put_size-at-requires
put_size-at-requires c = omega (arith, c.loop-size.invariant.0, c.loop-size.invariant.2, size_room c.args.found.now c.loop-size.size)

pub loop-size-preserved : goal.loop-size-preserved
loop-size-preserved c = (
  c.put_size-at.ensures.1 ∙ omega (arith, c.loop-size.invariant.0, size_count c.args.found.now c.loop-size.size),
  size_more c.args.out.now c.args.found.now c.loop-size.out c.put_size-at.new.out c.loop-size.size c.loop-size.at c.loop-size.invariant.1 c.loop-size.invariant.0 c.put_size-at.ensures.0,
  omega (arith, c.put_size-at.auto.out, c.loop-size.invariant.2),
)

pub returns : goal.returns
returns c = absurd (omega arith)

pub returns-2 : goal.returns-2
returns-2 c =
    let q : c.loop-size.size + 1 ≡ suc c.args.e = omega arith in
    size_more c.args.out.now c.args.found.now c.loop-size.out c.put_size-at.new.out c.loop-size.size c.loop-size.at c.loop-size.invariant.1 c.loop-size.invariant.0 c.put_size-at.ensures.0 ∙ ap (λ (n : ℕ). at_front c.args.out.now (joined (of_size c.args.found.now) n)) q
