-- The head, the codes and the nodes are the bytes of the sheet, and so are the pieces of Shapes.
use Rattle.std.proofs.Common.{◌≡◌, ℕ, ap, ◌∙◌, arith, length}
use Rattle.sheet_rows.proofs.Shape.{sheet_form}
use Rattle.text.proofs.PageLaws.{puts_then}
use Rattle.sheet_spec.specs.Encoding.{encode, encode_body, written_version}
use Rattle.sheet_writer.specs.Laws.{bytes_are}
use Rattle.sheet_writer.proofs.WriterLaws.{small, be_four}
use Rattle.sheet_writer.proofs.put_sheet.Goals as goal

pub version_of-version-requires : goal.version_of-version-requires
version_of-version-requires c = small c.args.s c.requires

pub body_size-requires-clause-small : goal.body_size-requires-clause-small
body_size-requires-clause-small c = small c.args.s c.requires

pub body_size-requires-clause-form : goal.body_size-requires-clause-form
body_size-requires-clause-form c = sheet_form c.args.s _ c.well_formed.1.0

pub put_codes-requires : goal.put_codes-requires
put_codes-requires c = small c.args.s c.requires

pub put_rows-requires : goal.put_rows-requires
put_rows-requires c = small c.args.s c.requires

pub returns : goal.returns
unfolding encode encode_body
returns c =
    let s = c.args.s in
    let v = c.version_of-version.ensures in
    let n : c.body_size.result ≡ length (encode_body (written_version s) s) = c.body_size.ensures ∙ ap (λ (k : ℕ). length (encode_body k s)) v in
    let h = rw (c.to_be_bytes.ensures, be_four c.body_size.result (omega arith), n) at c.put.ensures in
    let w = puts_then h (puts_then (rw v at c.put-2.ensures) (puts_then (rw v at c.put_codes.ensures) c.put_rows.ensures)) in
    (w, rw (bytes_are s (sheet_form s _ c.well_formed.1.0) c.requires) w)
