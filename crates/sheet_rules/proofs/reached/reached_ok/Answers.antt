use Rattle.std.proofs.Common.{rules}
use borrow.Author.Tests.{tests}
use Rattle.base.proofs.Chains.{all_below}
use Rattle.events.specs.Sets.{has}
use Rattle.sheet_rules.proofs.reached.Rounds.{reached_is}
use Rattle.sheet_rules.proofs.reached.reached_ok.Goals as goal

pub returns : goal.returns
returns c = reached_is c.args.s.now c.requires c.targets.ensures (cc) (all_below (has c.seen_after-seen.result) _ (cc) c.all.ensures.ran (λ x b q k. search (rules, tests)))
