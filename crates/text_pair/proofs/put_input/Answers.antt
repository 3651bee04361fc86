-- The two parts are the two sheets.
use Rattle.std.proofs.Common.{ap, ◌∙◌}
use Rattle.sheet_spec.specs.Reading.{read_sheet}
use Rattle.text_pair_spec.proofs.SplitLaws.{first_is, second_from}
use Rattle.text_pair.proofs.Parts.{opens_of}
use Rattle.text_pair.proofs.put_input.Goals as goal

pub returns : goal.returns
returns c =
    let i = c.args.input.now in
    let e = c.first_end.ensures.0 in
    let s = c.split_at.ensures in
    opens_of i _ _ (c.read-reference.ensures ∙ ap read_sheet (s.front ∙ first_is i e)) (c.read-device.ensures ∙ ap read_sheet (s.back ∙ second_from i e)) c.put_sheets.ensures
