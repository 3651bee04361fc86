-- The text is put over 4,096 zeros, and it fits.
use mathlib.Core.Path.{refl}
use Rattle.compare_lines_spec.proofs.Lengths.{text_fits}
use Rattle.compare_lines.proofs.Kept.{kept_is}
use Rattle.compare_lines.proofs.compare_text.Goals as goal

pub returns : goal.returns
returns c = kept_is _ _ refl (text_fits c.args.input.now) c.write_text-len.ensures
