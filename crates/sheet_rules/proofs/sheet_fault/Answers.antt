-- Where E and N are in range, there are at most 12 events and 32 nodes.
use Rattle.sheet_rules.proofs.Picked.{few_events, few_nodes}
use Rattle.sheet_rules.proofs.sheet_fault.Goals as goal

pub is_distinct-requires : goal.is_distinct-requires
is_distinct-requires c = search few_events

pub counts_ok-requires : goal.counts_ok-requires
counts_ok-requires c = search few_nodes

pub successors_ok-requires : goal.successors_ok-requires
successors_ok-requires c = search few_nodes

pub sets_ok-requires : goal.sets_ok-requires
sets_ok-requires c = search few_nodes

pub reached_ok-requires : goal.reached_ok-requires
reached_ok-requires c = search few_nodes
