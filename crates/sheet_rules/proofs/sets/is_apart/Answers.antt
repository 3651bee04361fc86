use Rattle.std.specs.Prelude.{not, eqb, take, get_or, ◌-◌}
use Rattle.std.specs.Int.Bits.{bit_and}
use Rattle.std.proofs.Common.{rules, arith, ◌∙◌}
use Rattle.std.proofs.lemmas.Iterator.{YieldsList-from_slice}
use Rattle.std.proofs.lemmas.Iterator.Search.{all_from_yields_List}
use borrow.Author.Tests.{tests}
use Rattle.sheet_rules.proofs.sets.Steps.{apart_is}
use Rattle.sheet_rules.proofs.sets.is_apart.Goals as goal

pub returns : goal.returns
returns c =
    all_from_yields_List (λ x. not (eqb (bit_and x (65535 - get_or c.args.sets.now c.args.j 0)) 0)) _ _ _ c.all.ensures.ran (YieldsList-from_slice (take c.args.j c.args.sets.now) cc) (λ x b q k. search (rules, tests))
    ∙ apart_is c.args.sets.now c.args.j c.fits-sets (omega arith)
