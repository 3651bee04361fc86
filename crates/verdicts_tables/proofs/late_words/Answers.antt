use Rattle.base.proofs.Loops.{empty}
use Rattle.verdicts_tables.proofs.late_words.Goals as goal

pub loop-n-init : goal.loop-n-init
loop-n-init c = empty
