use Rattle.std.proofs.Common.{not, eqb, refl, rules}
use borrow.Author.Tests.{tests}
use Rattle.base.proofs.Chains.{all_below}
use Rattle.sheet_spec.specs.Kept.{code_at}
use Rattle.sheet_spec.specs.Rules.{code_new}
use Rattle.sheet_codes.proofs.is_new.Goals as goal

pub returns : goal.returns
unfolding code_new
returns c = all_below (λ i. not (eqb (code_at c.args.codes.now i) (code_at c.args.codes.now c.args.j))) _ (refl) c.all.ensures.ran (λ x b q k. search (rules, tests))
