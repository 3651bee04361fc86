use Rattle.std.proofs.Common.{◌||◌, eqb, ltb, refl, rules}
use borrow.Author.Tests.{tests}
use Rattle.base.proofs.Chains.{all_below}
use Rattle.sheet_spec.specs.Kept.{successor}
use Rattle.sheet_rules.specs.RowShapes.{blank_succs}
use Rattle.sheet_rules.proofs.rows.Steps.{succ_is}
use Rattle.sheet_rules.proofs.rows.succs_blank.Goals as goal

pub returns : goal.returns
unfolding blank_succs
returns c = all_below (λ i. ltb i c.args.e || eqb (successor c.args.row i) 255) _ refl c.all.ensures.ran (λ x b q k. search (rules, tests, succ_is c.args.row _ c.well_formed.0))
