-- Each rule is tested as in the definition.
use Rattle.std.proofs.Common.{rules, refl}
use Rattle.events.specs.Sets.{inside}
use borrow.Author.Tests.{tests}
use Rattle.keypad_spec.specs.Tables.{rule_count}
use Rattle.keypad_spec.specs.Calls.{values_ok}
use Rattle.base.proofs.Chains.{all_below}
use Rattle.keypad.proofs.Steps.{value_ok}
use Rattle.keypad.proofs.values_inside.Goals as goal

pub returns : goal.returns
unfolding values_ok inside
returns c = all_below (value_ok c.args.table.now) (rule_count c.args.table.now) refl c.all.ensures.ran (λ x b q k. search (rules, tests))
