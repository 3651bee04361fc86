use Rattle.std.proofs.Common.{rules}
use borrow.Author.Tests.{tests}
use Rattle.base.proofs.Chains.{made_by}
use Rattle.sheet_spec.specs.Spelling.{code_of}
use Rattle.sheet_bytes.proofs.codes.codes_of.Goals as goal

pub returns : goal.returns
returns c = made_by _ (code_of c.args.bytes.now) (λ x y q k. search (rules, tests)) _ c.from_fn.ensures.items
