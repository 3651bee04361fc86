use Rattle.std.proofs.Common.{rules}
use borrow.Author.Tests.{tests}
use Rattle.base.proofs.Chains.{made_by}
use Rattle.sheet_rows.specs.Tables.{initials_in}
use Rattle.sheet_rows.proofs.all_initials.Goals as goal

pub returns : goal.returns
unfolding initials_in
returns c = made_by _ (initials_in c.args.e c.args.rows) (λ x y q k. search (rules, tests)) _ c.from_fn.ensures.items
