-- The sheet's line, and of an accepted one those of the walk.
use Rattle.std.proofs.Common.{ap, ◌∙◌}
use Rattle.sheet_spec.specs.Reading.{read_sheet}
use Rattle.text_spec.specs.Input.{cut_input}
use Rattle.walk_lines.proofs.Steps.{sheet_alone, sheet_and_walk}
use Rattle.walk_lines.proofs.put_text.Goals as goal

pub returns-in-Ok : goal.returns-in-Ok
unfolding cut_input
returns-in-Ok c =
    sheet_and_walk _ _ _ _ (c.read.ensures ∙ ap read_sheet c.front.ensures) c.in-Ok.is c.seed_of.ensures c.wish_of.ensures
    (rw c.in-Ok.is c.put_head.ensures) c.put_walked.ensures

pub returns-in-Err : goal.returns-in-Err
unfolding cut_input
returns-in-Err c = sheet_alone _ _ _ _ (c.read.ensures ∙ ap read_sheet c.front.ensures) c.in-Err.is (rw c.in-Err.is (rw c.from.ensures at c.put_head-in-Err.ensures))
