-- After some rounds the sets before are put.
use Rattle.base.specs.Joined.{joined}
use Rattle.text.specs.Pages.{Puts}
use Rattle.text_sheet_spec.specs.Node.{place_words}
use Rattle.probe_list_lines.proofs.put_sets.Given as goal

abbrev pub invariant-loop-set : goal.invariant-loop-set
invariant-loop-set l = Puts (joined (place_words l.sets) l.set-index) l.initial.page l.page
