-- After i rounds v is the number that the first i digits write, and what is left gives the whole.
use Rattle.std.specs.Prelude.{◌≡◌, ◌^◌, ◌<◌, drop}
use Rattle.text_spec.specs.Lines.{value_from}
use Rattle.words.proofs.value.Given as goal

abbrev pub invariant-loop-b : goal.invariant-loop-b
invariant-loop-b l = record {
  small : l.v < 10 ^ l.b-index;
  whole : value_from l.v (drop l.b-index l.bytes) ≡ value_from 0 l.bytes;
}
