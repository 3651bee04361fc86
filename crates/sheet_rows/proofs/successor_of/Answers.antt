-- `sheet_rows::successor_of`: below 12 a row has the place, from 12 on it has none.
use Rattle.sheet_rows.proofs.Shape.{succ_in, succ_out}
use Rattle.sheet_rows.proofs.successor_of.Goals as goal

pub returns-then-event-lt12 : goal.returns-then-event-lt12
returns-then-event-lt12 c = succ_in c.args.row _ c.well_formed.0 _ c.if-event-lt12.true

pub returns-else-event-lt12 : goal.returns-else-event-lt12
returns-else-event-lt12 c = succ_out c.args.row _ c.well_formed.0 _ c.if-event-lt12.false
