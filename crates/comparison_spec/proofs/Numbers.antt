-- Nothing to believe: laws of what specs/Numbers.antt defines.
use Rattle.std.specs.Prelude.{◌≡◌, refl, ℕ, Result, Ok, Err}
use Rattle.std.proofs.Common.{sym, ap, ◌∙◌}
use Rattle.comparison_spec.specs.declared.Outcome.{Outcome}
use Rattle.comparison_spec.specs.declared.Outcome.TheVariants.{Refines, Stray, Refusal}
use Rattle.comparison_spec.specs.Numbers.{compared, compared_from}

pub compared_back : (o : Result Outcome ℕ) → compared_from (compared o) ≡ o
unfolding compared_from compared
compared_back (Ok (Refines c)) = refl
compared_back (Ok (Stray d c i)) = refl
compared_back (Ok (Refusal d c X A)) = refl
compared_back (Err k) = refl

-- answers with the same numbers are the same
pub compared_once : (a b : Result Outcome ℕ) → compared a ≡ compared b → a ≡ b
compared_once a b e = sym (compared_back a) ∙ ap compared_from e ∙ compared_back b
