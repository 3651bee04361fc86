use Rattle.std.proofs.Common.{rules}
use borrow.Author.Tests.{tests}
use Rattle.base.proofs.Chains.{all_below}
use Rattle.sheet_spec.specs.Kept.{row}
use Rattle.sheet_spec.specs.Rules.{count_ok, counts_ok}
use Rattle.sheet_rules.proofs.counts_ok.Goals as goal

pub returns : goal.returns
unfolding counts_ok
returns c = all_below (λ v. count_ok (row c.args.s.now v).c) _ (cc) c.all.ensures.ran (λ x b q k. search (rules, tests))
