use Rattle.std.proofs.Common.{◌||◌, eqb, ltb, refl, rules}
use borrow.Author.Tests.{tests}
use Rattle.base.proofs.Chains.{all_below}
use Rattle.sheet_spec.specs.Kept.{code_at}
use Rattle.sheet_spec.specs.Rules.{codes_blank}
use Rattle.sheet_codes.proofs.is_blank_from.Goals as goal

pub returns : goal.returns
unfolding codes_blank
returns c = all_below (λ i. ltb i c.args.e || eqb (code_at c.args.codes.now i) 0) _ (refl) c.all.ensures.ran (λ x b q k. search (rules, tests))
