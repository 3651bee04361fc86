use Rattle.base.proofs.Loops.{empty}
use Rattle.verdicts_tables.proofs.bits_of.Goals as goal

pub loop-j-init : goal.loop-j-init
loop-j-init c = empty
