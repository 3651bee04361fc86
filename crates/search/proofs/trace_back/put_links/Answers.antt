use mathlib.Core.Path.{◌≡◌, refl, ◌∙◌}
use native.Mathlib.Omega.{arith}
use lib.ListN.{length-set}
use Rattle.search_theory.proofs.Read.{linked_none, linked_node, linked_link, linked_next}
use Rattle.search.proofs.trace_back.put_links.Goals as goal

pub loop-x-init : goal.loop-x-init
loop-x-init c = (omega arith, linked_none _ _, refl)

pub offset_bounds-work-x : goal.offset_bounds-work-x
offset_bounds-work-x c = omega (arith, c.requires)

pub bounds-work-x : goal.bounds-work-x
bounds-work-x c = omega (arith, c.requires)

pub overflow_add-work : goal.overflow_add-work
overflow_add-work c =
    let o = c.requires in
    let l = c.loop-x in
    omega (arith, o, o.nodes l.x (omega arith), linked_node _ _ _ l.work l.invariant.1 _ c.from-node.ensures)

pub offset_bounds-work-n : goal.offset_bounds-work-n
offset_bounds-work-n c =
    let o = c.requires in
    let l = c.loop-x in
    omega (arith, o, o.nodes l.x (omega arith), linked_node _ _ _ l.work l.invariant.1 _ c.from-node.ensures)

pub bounds-work-n : goal.bounds-work-n
bounds-work-n c =
    let o = c.requires in
    let l = c.loop-x in
    omega (arith, o, o.nodes l.x (omega arith), linked_node _ _ _ l.work l.invariant.1 _ c.from-node.ensures)

pub offset_bounds-work-x-in-loop-x : goal.offset_bounds-work-x-in-loop-x
offset_bounds-work-x-in-loop-x c = omega (arith, c.requires)

pub bounds-work-x-in-loop-x : goal.bounds-work-x-in-loop-x
bounds-work-x-in-loop-x c = omega (arith, c.requires)

pub overflow_step-x : goal.overflow_step-x
overflow_step-x c = omega (arith, c.requires)

pub loop-x-preserved : goal.loop-x-preserved
loop-x-preserved c =
    let o = c.requires in
    let l = c.loop-x in (
      omega arith,
      linked_next _ _ _ l.work _ l.invariant.1 (omega (arith, o)) (linked_link _ _ _ l.work l.invariant.1 _ c.from-node.ensures (omega (arith, o))),
      length-set l.work l.x _ ∙ l.invariant.2,
    )

pub shape_of-work : goal.shape_of-work
shape_of-work c = c.loop-x.invariant.2

pub returns : goal.returns
returns c = let e : c.loop-x.x ≡ c.args.m = omega arith in rw e at c.loop-x.invariant.1
