use Rattle.std.proofs.Common.{rules}
use borrow.Author.Tests.{tests}
use Rattle.base.proofs.Chains.{all_below}
use Rattle.sheet_spec.specs.Kept.{row}
use Rattle.sheet_spec.specs.Rules.{row_successors_ok, successors_ok}
use Rattle.sheet_rules.proofs.successors_ok.Goals as goal

pub returns : goal.returns
unfolding successors_ok
returns c = all_below (λ v. row_successors_ok c.args.s.now.e c.args.s.now.n (row c.args.s.now v)) _ (cc) c.all.ensures.ran (λ x b q k. search (rules, tests))
