use Rattle.std.proofs.Common.{◌&&◌, eqb, ltb, refl, rules}
use borrow.Author.Tests.{tests}
use Rattle.base.proofs.Chains.{any_below}
use Rattle.sheet_spec.specs.Kept.{acceptance, may_stop}
use Rattle.sheet_rows.proofs.may_stop.Goals as goal

pub returns : goal.returns
unfolding may_stop acceptance
returns c = let r = c.args.row in any_below (λ j. ltb j r.c && eqb (acceptance r j) 0) _ refl c.any.ensures.ran (λ x b q k. search (rules, tests))
