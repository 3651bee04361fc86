use Rattle.std.proofs.Common.{rules}
use borrow.Author.Tests.{tests}
use Rattle.base.proofs.Chains.{made_by}
use Rattle.sheet_spec.specs.Spelling.{succ_of}
use Rattle.sheet_bytes.proofs.succs_of.Goals as goal

pub returns : goal.returns
returns c = made_by _ (succ_of c.args.bytes.now c.args.at c.args.e) (λ x y q k. search (rules, tests)) _ c.from_fn.ensures.items
