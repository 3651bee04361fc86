-- Each pass gives its own refusal.
use Rattle.std.proofs.Common.{rules}
use Rattle.sheet.proofs.Answers.{read_bytes, read_graph, read_whole, few_nodes}
use Rattle.sheet.proofs.read.Goals as goal

pub returns-in_err-fault_in : goal.returns-in_err-fault_in
returns-in_err-fault_in c = search (rules, read_bytes _ _ c.in_err-fault_in.ensures)

pub graph_fault-requires : goal.graph_fault-requires
graph_fault-requires c = rw c.sheet_of-s.ensures (few_nodes _ c.in_ok-fault_in.ensures)

pub returns-in_err-graph_fault : goal.returns-in_err-graph_fault
returns-in_err-graph_fault c = search (rules, read_graph c.args.bytes.now c.in_ok-fault_in.ensures c.in_err-graph_fault.field-0.0 (rw c.sheet_of-s.ensures at c.in_err-graph_fault.ensures))

pub returns : goal.returns
returns c = rw c.sheet_of-s.ensures (read_whole _ c.in_ok-fault_in.ensures (rw c.sheet_of-s.ensures at c.in_ok-graph_fault.ensures))
