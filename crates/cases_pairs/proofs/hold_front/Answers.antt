-- `cases_pairs::hold_front`: what was read without refusal is accepted.
use Rattle.cases_pairs.proofs.Kept.{kept_fault}
use Rattle.cases_pairs.proofs.hold_front.Goals as goal

pub hold_sheet-requires : goal.hold_sheet-requires
hold_sheet-requires c = kept_fault _ c.in-Ok.ensures
