-- `cases_pairs::write_again`: what was read without refusal is accepted.
use Rattle.cases_pairs.proofs.Kept.{kept_fault}
use Rattle.cases_pairs.proofs.write_again.Goals as goal

pub write_sheet-requires : goal.write_sheet-requires
write_sheet-requires c = kept_fault _ c.in-Ok.ensures
