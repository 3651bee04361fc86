-- After i rounds the first i numbers are put.
use Rattle.std.specs.Prelude.{take}
use Rattle.sheet_spec.specs.Encoding.{encode_words}
use Rattle.text.specs.Pages.{Puts}
use Rattle.sheet_writer.proofs.put_words.Given as goal

abbrev pub invariant-loop-word : goal.invariant-loop-word
invariant-loop-word l = Puts (encode_words (take l.word-index l.words)) l.initial.page l.page
