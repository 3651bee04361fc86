use Rattle.std.proofs.Common.{rules}
use borrow.Author.Tests.{tests}
use Rattle.base.proofs.Chains.{all_below}
use Rattle.sheet_spec.specs.Rules.{code_new, codes_ok}
use Rattle.sheet_codes.proofs.is_distinct.Goals as goal

pub returns : goal.returns
unfolding codes_ok
returns c = all_below (code_new c.args.codes.now) _ (cc) c.all.ensures.ran (λ x b q k. search (rules, tests))
