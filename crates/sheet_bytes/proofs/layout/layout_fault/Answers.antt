use Rattle.sheet_bytes.proofs.layout.Nodes.{sets_out, cut_short, count_wrong, cut_inside, walks_on, more_behind, all_passed}
use Rattle.sheet_bytes.proofs.layout.layout_fault.Goals as goal

pub loop-v-init : goal.loop-v-init
loop-v-init c = sets_out c.nodes_at-at.ensures

pub returns-then-place-bytes : goal.returns-then-place-bytes
returns-then-place-bytes c = search cut_short

pub returns-then-not-count_ok : goal.returns-then-not-count_ok
returns-then-not-count_ok c = search count_wrong

pub returns-then-at-bytes : goal.returns-then-at-bytes
returns-then-at-bytes c = search cut_inside

pub loop-v-preserved : goal.loop-v-preserved
loop-v-preserved c = search walks_on

pub returns-then-at-bytes-2 : goal.returns-then-at-bytes-2
returns-then-at-bytes-2 c = search (more_behind, c.if-at-bytes-2.true)

pub returns : goal.returns
returns c = search all_passed
