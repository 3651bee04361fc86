use Rattle.std.proofs.Common.{◌+◌, eqb, rules}
use borrow.Author.Tests.{tests}
use Rattle.base.proofs.Chains.{all_below}
use Rattle.sheet_spec.specs.Kept.{code_at}
use Rattle.sheet_spec.specs.Rules.{first_codes_ok}
use Rattle.sheet_codes.proofs.is_first.Goals as goal

pub returns : goal.returns
unfolding first_codes_ok
returns c = all_below (λ i. eqb (code_at c.args.codes.now i) (i + 1)) _ (cc) c.all.ensures.ran (λ x b q k. search (rules, tests))
