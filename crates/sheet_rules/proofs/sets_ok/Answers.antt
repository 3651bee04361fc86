use Rattle.std.proofs.Common.{rules}
use borrow.Author.Tests.{tests}
use Rattle.base.proofs.Chains.{all_below}
use Rattle.sheet_spec.specs.Kept.{row}
use Rattle.sheet_spec.specs.Rules.{row_sets_ok, sets_ok}
use Rattle.sheet_rules.proofs.sets_ok.Goals as goal

pub returns : goal.returns
unfolding sets_ok
returns c = all_below (λ v. row_sets_ok c.args.s.now.e (row c.args.s.now v)) _ (cc) c.all.ensures.ran (λ x b q k. search (rules, tests))
