-- `several::put_node`: of a node that is among the nodes its first C sets are written, of another none.
use Rattle.std.proofs.Common.{sym, ◌∙◌}
use Rattle.sheet_spec.proofs.RowLaws.{acceptances_take}
use Rattle.sheet_rows.proofs.Shape.{row_form}
use Rattle.probes.proofs.several.Gathered.{put_taken}
use Rattle.probes.proofs.several.put_node.Goals as goal

pub returns-then-has_node : goal.returns-then-has_node
returns-then-has_node c =
    put_taken _ _ c.args.out.now _ c.args.at _ _ (sym c.has_node.ensures ∙ c.if-has_node.true)
    (rw c.from.ensures (sym (acceptances_take c.args.row (row_form c.args.row _ c.well_formed.0) c.requires.1))) c.put_sets.ensures.0 c.put_sets.ensures.1
