-- The answer of the probe call, and the optional events after it, are the text of the node.
use Rattle.std.proofs.Common.{arith}
use Rattle.text_sheet_spec.specs.Node.{probe_space}
use Rattle.probe_list_lines.proofs.Found.{found_fits, found_count, found_node, found_puts, denied_puts}
use Rattle.probe_list_lines.proofs.put_text.Goals as goal

pub slice_bounds-sets-end : goal.slice_bounds-sets-end
unfolding probe_space
slice_bounds-sets-end c = omega (arith, c.from.ensures, c.list.auto.out, found_fits c.args.sheet c.args.node c.list.ensures.0 c.in-Ok.is)

pub slice_bounds-put_found-end : goal.slice_bounds-put_found-end
unfolding probe_space
slice_bounds-put_found-end c = rw c.from.ensures (found_count c.args.sheet c.args.node c.list.ensures.0 c.in-Ok.is c.list.ensures.2)

pub put_optional_of-requires : goal.put_optional_of-requires
unfolding probe_space
put_optional_of-requires c = found_node c.args.sheet c.args.node c.list.ensures.0 c.in-Ok.is

pub returns-in-Ok : goal.returns-in-Ok
unfolding probe_space
returns-in-Ok c = found_puts c.args.sheet c.args.node c.list.ensures.0 c.in-Ok.is c.list.ensures.2 (rw c.from.ensures at c.put_found.ensures) c.put_optional_of.ensures

pub returns-in-Err : goal.returns-in-Err
unfolding probe_space
returns-in-Err c = denied_puts c.args.sheet c.args.node c.list.ensures.0 c.in-Err.is c.put_denied_line.ensures
