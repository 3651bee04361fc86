-- `probes::list`: the probes of the node's acceptances are those of the node.
use Rattle.std.proofs.Common.{◌<◌, sym, arith}
use Rattle.std.proofs.lemmas.Grind.{common_steps}
use Rattle.sheet_rows.proofs.Shape.{sheet_form}
use Rattle.probes_spec.specs.Listing.{list_fault, list_count, listed_numbers, listed_of, list_after}
use Rattle.probes.proofs.Lists.{node_sets}
use Rattle.probes.proofs.list.Goals as goal

pub returns : goal.returns
unfolding list_fault list_count listed_numbers listed_of list_after
returns c =
    let inside : c.args.node < c.args.sheet.n = omega arith in
    let q = node_sets c.args.sheet (sym c.in_ok-check.ensures) (sheet_form c.args.sheet _ c.well_formed.0) c.args.node inside in
    grind (arith, common_steps, q)
