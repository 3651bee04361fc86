use Rattle.std.proofs.Common.{refl, rules}
use borrow.Author.Tests.{tests}
use Rattle.base.proofs.Chains.{all_below}
use Rattle.sheet_spec.specs.Kept.{row}
use Rattle.sheet_spec.specs.Rules.{unused_ok, blanks_ok}
use Rattle.sheet_rules.proofs.blanks_ok.Goals as goal

pub returns : goal.returns
unfolding blanks_ok
returns c = all_below (λ v. unused_ok c.args.s.now.e c.args.s.now.n v (row c.args.s.now v)) _ refl c.all.ensures.ran (λ x b q k. search (rules, tests))
