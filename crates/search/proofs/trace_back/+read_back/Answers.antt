-- `trace_back::read_back`: each event is read off the link of the entry before.
use Rattle.std.proofs.Common.{arith, length-set}
use Rattle.search_theory.specs.Read.{link_in}
use Rattle.search_theory.proofs.Read.{back_link, read_none, read_more}
use Rattle.search.proofs.trace_back.+read_back.Goals as goal

pub returns-then-d-eq0 : goal.returns-then-d-eq0
returns-then-d-eq0 t c = read_none _ _ _ _ _ c.if-d-eq0.true

pub offset_bounds-links-place : goal.offset_bounds-links-place
offset_bounds-links-place t c = omega (arith, (back_link _ _ _ c.if-d-eq0.false c.requires.0).small)

pub bounds-links-place : goal.bounds-links-place
bounds-links-place t c = (back_link _ _ _ c.if-d-eq0.false c.requires.0).inside

pub overflow_sub-events : goal.overflow_sub-events
unfolding link_in
overflow_sub-events t c = rw c.from-link.ensures (back_link _ _ _ c.if-d-eq0.false c.requires.0).link

pub overflow_sub-link : goal.overflow_sub-link
unfolding link_in
overflow_sub-link t c = rw c.from-link.ensures (back_link _ _ _ c.if-d-eq0.false c.requires.0).link

pub read_back-requires : goal.read_back-requires
unfolding link_in
read_back-requires t c = (
  omega (arith, c.if-d-eq0.false),
  (rw c.from-link.ensures (back_link _ _ _ c.if-d-eq0.false c.requires.0).rest, simp length-set c.requires.1),
)

pub returns : goal.returns
unfolding link_in
returns t c =
    let a = c.args in
    read_more (λ x. x) (link_in a.links.now.now) a.place _ _ a.events.now _ c.if-d-eq0.false
    (omega (arith, c.requires.0.few, c.requires.1)) c.from-link.ensures c.read_back.ensures
