-- Nothing to believe: laws of what specs/Numbers.antt defines.
use Rattle.std.specs.Prelude.{◌≡◌, refl, cond, eqb, ℕ, Result, Ok, Err}
use Rattle.std.proofs.Common.{sym, ap, ◌∙◌}
use Rattle.verdicts_spec.specs.declared.Verdict.{Verdict}
use Rattle.verdicts_spec.specs.declared.Verdict.TheVariants.{Passes, Fails}
use Rattle.verdicts_spec.specs.Numbers.{Judgement, judged, passes_number}

-- the verdict that has the given numbers
verdict_from : Judgement → Result Verdict ℕ
verdict_from n = cond (eqb n.kind 0) (Err n.refusal) (Ok (cond (eqb n.kind passes_number) Passes Fails))

verdict_back : (a : Result Verdict ℕ) → verdict_from (judged a) ≡ a
unfolding judged verdict_from
verdict_back (Err m) = refl
verdict_back (Ok Passes) = refl
verdict_back (Ok Fails) = refl

-- two verdicts with the same numbers are one
pub judged_once : (a b : Result Verdict ℕ) → judged a ≡ judged b → a ≡ b
judged_once a b e = sym (verdict_back a) ∙ ap verdict_from e ∙ verdict_back b
