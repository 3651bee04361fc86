use Rattle.verdicts_tables.proofs.Words.{none}
use Rattle.verdicts_tables.proofs.stop_word.Goals as goal

pub loop-m-init : goal.loop-m-init
loop-m-init c = none
