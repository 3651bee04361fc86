use Rattle.std.proofs.Common.{◌≡◌, refl, sym, ap, ◌∙◌, ℕ, ◌+◌, ◌*◌, ◌-◌, ◌++◌, arith}
use Rattle.base.specs.Front.{at_front}
use Rattle.base.specs.Joined.{joined}
use Rattle.bound_spec.specs.ByteLaws.{head_bytes, one_set_bytes, climbing_reference}
use Rattle.bound_spec.proofs.ByteLaws.{reference_spelled}
use Rattle.bound.proofs.Steps.{starts, goes_on, ends, from_head}
use Rattle.bound.proofs.write_reference.Goals as goal

pub loop-v-init : goal.loop-v-init
loop-v-init c = starts (head_bytes (7 * c.args.p + 1) c.args.p) climbing_reference 7 (omega arith) (λ i. refl) _

pub put_two_sets-requires : goal.put_two_sets-requires
put_two_sets-requires c = omega (arith, c.loop-v.invariant.same, c.put_head.auto.out)

pub loop-v-preserved : goal.loop-v-preserved
loop-v-preserved c =
    let l = c.loop-v.invariant in
    goes_on (head_bytes (7 * c.args.p + 1) c.args.p) climbing_reference 7 (omega arith) (λ i. refl) l (omega arith) (omega (arith, l.same, c.put_head.auto.out)) c.put_two_sets.ensures

pub put_one_set-requires : goal.put_one_set-requires
put_one_set-requires c = omega (arith, c.loop-v.invariant.same, c.put_head.auto.out)

pub shape_of-out : goal.shape_of-out
shape_of-out c = c.put_one_set.auto.out ∙ c.loop-v.invariant.same ∙ c.put_head.auto.out

pub returns : goal.returns
returns c =
    let a = c.args in
    let l = c.loop-v in
    let head = head_bytes (7 * a.p + 1) a.p in
    let v : l.v ≡ a.p - 1 = omega arith in
    let b = c.put_head.ensures ∙ from_head a.out.now head (omega arith) in
    ends head climbing_reference 7 (omega arith) (λ i. refl) l.invariant (omega arith) (one_set_bytes (a.p - 1) 255 1) a.out.now (omega arith)
    (omega (arith, l.invariant.same, c.put_head.auto.out)) b c.put_one_set.ensures
    ∙ ap (at_front a.out.now) (ap (λ (k : ℕ). head ++ (joined climbing_reference k ++ (one_set_bytes (a.p - 1) 255 1))) v ∙ sym (reference_spelled a.p (omega arith) (omega arith)))
