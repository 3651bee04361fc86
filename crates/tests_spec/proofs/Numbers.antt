-- Nothing to believe: laws of what specs/Numbers.antt defines.
use Rattle.std.specs.Prelude.{◌≡◌, refl, cond, eqb}
use Rattle.std.proofs.Common.{sym, ap, ◌∙◌}
use Rattle.tests_spec.specs.declared.Answer.{Answer}
use Rattle.tests_spec.specs.declared.Answer.TheVariants.{Going, Stray, Refused, Passed, Inconclusive, Denied}
use Rattle.tests_spec.specs.Numbers.{Said, said}

-- the answer that has the given numbers
answer_from : Said → Answer
answer_from n =
    cond (eqb n.kind 0) (Denied n.refusal)
    (cond (eqb n.kind 1) (Going n.value)
    (cond (eqb n.kind 2) (Stray n.value)
    (cond (eqb n.kind 3) (Refused n.value)
    (cond (eqb n.kind 4) Passed Inconclusive))))

answer_back : (a : Answer) → answer_from (said a) ≡ a
unfolding said answer_from
answer_back (Denied m) = refl
answer_back (Going x) = refl
answer_back (Stray i) = refl
answer_back (Refused x) = refl
answer_back Passed = refl
answer_back Inconclusive = refl

-- two answers with the same numbers are one
pub said_once : (a b : Answer) → said a ≡ said b → a ≡ b
said_once a b e = sym (answer_back a) ∙ ap answer_from e ∙ answer_back b
