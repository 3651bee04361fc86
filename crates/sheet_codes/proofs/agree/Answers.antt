use Rattle.std.proofs.Common.{eqb, rules}
use borrow.Author.Tests.{tests}
use Rattle.base.proofs.Chains.{all_below}
use Rattle.sheet_spec.specs.Kept.{code_at}
use Rattle.sheet_spec.specs.Rules.{codes_agree}
use Rattle.sheet_codes.proofs.agree.Goals as goal

pub returns : goal.returns
unfolding codes_agree
returns c = all_below (λ i. eqb (code_at c.args.codes.now i) (code_at c.args.others.now i)) _ (cc) c.all.ensures.ran (λ x b q k. search (rules, tests))
