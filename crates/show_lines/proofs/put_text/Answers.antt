-- The first line, and of an accepted sheet the lines of the codes and of the nodes.
use Rattle.std.proofs.Common.{ap, sym, ◌∙◌}
use Rattle.sheet_spec.specs.Reading.{read_sheet, kept}
use Rattle.show_lines.proofs.Shown.{refused_shown, nodes_shown, events_few, nodes_few}
use Rattle.show_lines.proofs.put_text.Goals as goal

pub put_codes-requires : goal.put_codes-requires
put_codes-requires c = events_few c.args.input.now _ (ap kept (sym c.in-Ok.is) ∙ c.read.ensures ∙ ap read_sheet c.front.ensures)

pub put_nodes-requires : goal.put_nodes-requires
put_nodes-requires c = nodes_few c.args.input.now _ (ap kept (sym c.in-Ok.is) ∙ c.read.ensures ∙ ap read_sheet c.front.ensures)

pub returns-in-Ok : goal.returns-in-Ok
returns-in-Ok c =
    nodes_shown c.args.input.now _ (ap kept (sym c.in-Ok.is) ∙ c.read.ensures ∙ ap read_sheet c.front.ensures)
    c.put_head.ensures c.put_codes.ensures c.put_nodes.ensures

pub returns-in-Err : goal.returns-in-Err
returns-in-Err c =
    refused_shown c.args.input.now _ (ap kept (sym c.in-Err.is) ∙ c.read.ensures ∙ ap read_sheet c.front.ensures)
    (rw c.from.ensures at c.put_head-in-Err.ensures)
