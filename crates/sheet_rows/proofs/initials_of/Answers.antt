use mathlib.Core.Path.{◌≡◌, refl, ap, ◌∙◌}
use native.Mathlib.Omega.{arith}
use Rattle.sheet_spec.specs.Kept.{initials}
use Rattle.sheet_rows.proofs.Shape.{succ_in}
use Rattle.sheet_rows.proofs.Steps.{initial, initial_more}
use Rattle.events.specs.Bit.{set_of}
use Rattle.sheet_rows.proofs.initials_of.Goals as goal

pub loop-i-init : goal.loop-i-init
unfolding set_of
loop-i-init c = (omega arith, refl)

pub loop-i-preserved : goal.loop-i-preserved
loop-i-preserved c =
    let l = c.loop-i in
    let s = c in
    let r = s.args.row in
    (omega arith, c.with_initial-set.ensures r (succ_in r _ s.well_formed.0 l.i (omega arith)) ∙ initial_more s.args.e r l.set l.i (omega arith) l.invariant.1)

pub returns : goal.returns
unfolding initials
returns c =
    let l = c.loop-i in
    let a = c.args in
    let q : l.i ≡ 12 = omega arith in
    l.invariant.1 ∙ ap (set_of (initial a.e a.row)) q
