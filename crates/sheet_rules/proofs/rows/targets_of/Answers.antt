use mathlib.Core.Path.{◌≡◌, refl, ap, ◌∙◌}
use Prim.Native.Nat.{ℕ}
use native.Mathlib.Omega.{arith}
use Rattle.sheet_rules.specs.RowShapes.{node_added, targets}
use Rattle.sheet_rules.proofs.rows.Steps.{succ_is, target_more}
use Rattle.sheet_rules.proofs.rows.targets_of.Goals as goal

pub loop-i-init : goal.loop-i-init
unfolding targets
loop-i-init c = (omega arith, refl)

pub loop-i-preserved : goal.loop-i-preserved
loop-i-preserved c =
    let l = c.loop-i in
    let s = c in
    let a = s.args in
    let v = c.from.ensures ∙ c.succ_at.ensures ∙ succ_is a.row _ s.well_formed.0 l.i in
    (omega arith, c.with_target-set.ensures ∙ ap (node_added l.set) v ∙ target_more a.row l.set l.i l.invariant.1)

pub returns : goal.returns
returns c =
    let l = c.loop-i in
    let a = c.args in
    let q : l.i ≡ a.e = omega arith in
    l.invariant.1 ∙ ap (λ (i : ℕ). targets i a.row) q
