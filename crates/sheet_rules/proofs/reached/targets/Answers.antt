use Rattle.std.proofs.Common.{rules}
use borrow.Author.Tests.{tests}
use Rattle.base.proofs.Chains.{made_by}
use Rattle.sheet_rules.specs.ReachShapes.{targets_of}
use Rattle.sheet_rules.proofs.reached.targets.Goals as goal

pub returns : goal.returns
unfolding targets_of
returns c = made_by _ (targets_of c.args.s.now) (λ x y q k. search (rules, tests)) _ c.from_fn.ensures.items
