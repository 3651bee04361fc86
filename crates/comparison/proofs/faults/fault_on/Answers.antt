-- `faults::fault_on` makes the tests of the definition in their order.
use Rattle.std.proofs.Common.{rules}
use Rattle.refusals.proofs.NumberLaws.{number_some}
use Rattle.comparison.proofs.faults.Faults.{unpaired, twelve, thirteen, none}
use Rattle.comparison.proofs.faults.fault_on.Goals as goal

pub returns-in_err-check_pair : goal.returns-in_err-check_pair
returns-in_err-check_pair c = search (rules, unpaired c.args.reference c.args.device c.args.words c.args.places c.in_err-check_pair.ensures (number_some _))

pub returns-then-words-n : goal.returns-then-words-n
returns-then-words-n c = twelve _ _ _ _ c.in_ok-check_pair.ensures (rw (c.from.ensures, c.from-2.ensures) at c.if-words-n.true)

pub returns-then-places-n : goal.returns-then-places-n
returns-then-places-n c =
    thirteen _ _ _ _ c.in_ok-check_pair.ensures (rw (c.from.ensures, c.from-2.ensures) at c.if-words-n.false)
    (rw (c.from.ensures, c.from-2.ensures) at c.if-places-n.true)

pub returns : goal.returns
returns c =
    none _ _ _ _ c.in_ok-check_pair.ensures (rw (c.from.ensures, c.from-2.ensures) at c.if-words-n.false)
    (rw (c.from.ensures, c.from-2.ensures) at c.if-places-n.false)
