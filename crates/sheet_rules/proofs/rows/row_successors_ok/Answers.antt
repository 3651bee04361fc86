use Rattle.std.proofs.Common.{refl, rules}
use borrow.Author.Tests.{tests}
use Rattle.base.proofs.Chains.{all_below}
use Rattle.sheet_spec.specs.Kept.{successor}
use Rattle.sheet_spec.specs.Rules.{successor_ok, row_successors_ok}
use Rattle.sheet_rules.proofs.rows.Steps.{succ_is}
use Rattle.sheet_rules.proofs.rows.row_successors_ok.Goals as goal

pub returns : goal.returns
unfolding row_successors_ok
returns c = all_below (λ i. successor_ok c.args.n (successor c.args.row i)) _ refl c.all.ensures.ran (λ x b q k. search (rules, tests, succ_is c.args.row _ c.well_formed.0))
