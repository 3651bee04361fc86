-- Three bytes of the head, the codes, the nodes.
use Rattle.std.proofs.Common.{arith, length-append, take}
use Rattle.sheet_spec.specs.Encoding.{encode_codes, encode_rows, encode_body}
use Rattle.sheet_writer.proofs.body_size.Goals as goal

pub returns : goal.returns
unfolding encode_body
returns c =
    let s = c.args.s.now in
    omega (arith, length-append (encode_codes c.args.version s) (encode_rows s.e (take s.n s.rows)), c.codes_size.ensures.size, c.rows_size.ensures.size)
