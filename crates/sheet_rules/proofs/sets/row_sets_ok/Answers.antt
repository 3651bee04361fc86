use Rattle.std.proofs.Common.{rules}
use borrow.Author.Tests.{tests}
use Rattle.base.proofs.Chains.{all_below}
use Rattle.sheet_spec.specs.Rules.{row_sets_ok, set_ok}
use Rattle.sheet_spec.specs.Kept.{initials}
use native.Mathlib.Omega.{arith}
use Rattle.sheet_rules.proofs.sets.Steps.{sets_alone_lem, too_many}
use Rattle.sheet_rules.proofs.sets.row_sets_ok.Goals as goal

pub returns-then-c-gt16 : goal.returns-then-c-gt16
unfolding row_sets_ok
returns-then-c-gt16 c = too_many c.args.row _ c.well_formed.0 c.args.e (omega arith)

pub returns : goal.returns
unfolding row_sets_ok
returns c = all_below (set_ok (initials c.args.e c.args.row) c.args.row) _ (cc) c.all.ensures.ran (λ x b q k. search (rules, tests, sets_alone_lem))
