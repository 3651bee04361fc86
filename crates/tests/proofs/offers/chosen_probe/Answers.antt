-- The probes stand at the front of a list that has room for all, and the place is that of the definition.
use Rattle.std.proofs.Common.{replicate}
use Rattle.sheet_spec.proofs.RowLaws.{acceptances_take}
use Rattle.sheet_rows.proofs.Shape.{row_form}
use Rattle.tests.proofs.offers.Offers.{chosen_none, chosen_some}
use Rattle.tests.proofs.offers.chosen_probe.Goals as goal

pub returns-then-m-eq0 : goal.returns-then-m-eq0
returns-then-m-eq0 c =
    rw (acceptances_take c.args.row (row_form c.args.row _ c.well_formed.0) c.requires.0, ← c.from.ensures) (chosen_none _ c.args.h c.fill-m.ensures.1 c.if-m-eq0.true)

pub returns-else-m-eq0 : goal.returns-else-m-eq0
returns-else-m-eq0 c =
    rw (acceptances_take c.args.row (row_form c.args.row _ c.well_formed.0) c.requires.0, ← c.from.ensures, c.from-else-m-eq0.ensures)
    (chosen_some _ c.args.h c.fill-m.ensures.1 (replicate 4096 0) c.if-m-eq0.false c.fill-m.ensures.0)
