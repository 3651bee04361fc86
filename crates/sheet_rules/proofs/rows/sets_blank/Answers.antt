use Rattle.std.proofs.Common.{◌||◌, eqb, ltb, refl, rules}
use borrow.Author.Tests.{tests}
use Rattle.base.proofs.Chains.{all_below}
use Rattle.sheet_spec.specs.Kept.{acceptance}
use Rattle.sheet_rules.specs.RowShapes.{blank_sets}
use Rattle.sheet_rules.proofs.rows.sets_blank.Goals as goal

pub returns : goal.returns
unfolding blank_sets acceptance
returns c = all_below (λ j. ltb j c.args.c || eqb (acceptance c.args.row j) 0) _ refl c.all.ensures.ran (λ x b q k. search (rules, tests))
