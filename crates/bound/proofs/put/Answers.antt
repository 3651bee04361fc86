-- The bytes stand in the middle of what was there.
use Rattle.std.proofs.Common.{refl, sym, ◌∙◌, length, arith}
use Rattle.std.proofs.Math.Seq.{take-length}
use Rattle.std.proofs.lemmas.List.Edits.{sets-eq}
use Rattle.std.proofs.lemmas.Slice.{put_mid-paste}
use Rattle.bound.proofs.put.Goals as goal

pub returns : goal.returns
returns c =
    let b = c.args.bytes.now in
    put_mid-paste c.args.at _ c.args.out.now _ b (length b) c.copy_from_slice.ensures.after (omega arith) refl
    ∙ rw (take-length b) (sym (sets-eq b c.args.out.now c.args.at c.requires))
