-- Each rule is tested as in the definition.
use Rattle.std.proofs.Common.{rules, refl}
use Rattle.keypad_spec.specs.Tables.{rule_count}
use Rattle.keypad_spec.specs.Calls.{events_ok}
use Rattle.base.proofs.Chains.{all_below}
use Rattle.keypad.proofs.Steps.{event_ok}
use Rattle.keypad.proofs.events_below.Goals as goal

pub returns : goal.returns
unfolding events_ok
returns c = all_below (event_ok c.args.table.now c.args.e) (rule_count c.args.table.now) refl c.all.ensures.ran (λ x b q k. search rules)
