use Rattle.text.proofs.PageLaws.{puts_then, joined_next}
use Rattle.text_sheet_spec.specs.Node.{place_words}
use Rattle.probe_list_lines.proofs.put_sets.Goals as goal

pub loop-set-preserved : goal.loop-set-preserved
unfolding place_words
loop-set-preserved c = joined_next _ c.loop-set.set-index c.loop-set.invariant (puts_then c.put.ensures c.put_set.ensures)
