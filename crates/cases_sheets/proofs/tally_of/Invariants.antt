-- After i rounds the counts are at most those of i rows.
use Rattle.std.specs.Prelude.{◌*◌, ◌≤◌}
use Rattle.cases_sheets.proofs.tally_of.Given as goal

abbrev pub invariant-loop-row : goal.invariant-loop-row
invariant-loop-row l = (l.succs ≤ 12 * l.row-index) × (l.sets ≤ 16 * l.row-index) × (l.counts ≤ l.row-index)
