use mathlib.Core.Path.{refl, sym}
use native.Mathlib.Omega.{arith}
use Rattle.base.specs.Range.{any}
use Rattle.base.proofs.Range.{any←, any_more, any_done}
use Rattle.events.specs.Sets.{meets}
use borrow.Author.Tests.{eq-eqb, ne_eqb}
use Rattle.verdicts_layers.specs.ImageShapes.{layer_hits}
use Rattle.verdicts_layers.proofs.images.is_hit.Invariants.{shared}
use Rattle.verdicts_layers.proofs.images.is_hit.Goals as goal

pub loop-n-init : goal.loop-n-init
unfolding any
loop-n-init c = (omega arith, refl)

pub returns-then-layer-n-ne0 : goal.returns-then-layer-n-ne0
unfolding layer_hits meets
returns-then-layer-n-ne0 c =
    let l = c.loop-n in
    let a = c.args in
    sym (any← (shared a.layer a.words) a.p l.n (omega arith) (unfold meets in rw (ne_eqb _ 0 c.if-layer-n-ne0.true)))

pub loop-n-preserved : goal.loop-n-preserved
unfolding meets
loop-n-preserved c =
    let l = c.loop-n in
    let a = c.args in
    (omega arith, any_more (shared a.layer a.words) l.n l.invariant.1 (unfold meets in rw (eq-eqb _ 0 c.if-layer-n-ne0.false)))

pub returns : goal.returns
unfolding layer_hits
returns c =
    let l = c.loop-n in
    let a = c.args in
    sym (any_done (shared a.layer a.words) a.p l.n (omega arith) (omega arith) l.invariant.1)
