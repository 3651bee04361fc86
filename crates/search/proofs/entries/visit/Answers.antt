-- `entries::visit`: the two words of a new entry, or nothing.
use native.Mathlib.Omega.{arith}
use lib.ListN.{length-set}
use borrow.Author.Tests.{eq-eqb, ne_eqb}
use Rattle.search_theory.specs.Words.{link_at, visited}
use Rattle.search.proofs.entries.visit.Goals as goal

pub offset_bounds-work-tail : goal.offset_bounds-work-tail
unfolding link_at
offset_bounds-work-tail c = omega (arith, c.requires.0.free c.if-work-n-eq0.true)

pub bounds-work-tail : goal.bounds-work-tail
unfolding link_at
bounds-work-tail c = simp length-set (omega (arith, c.requires.0.free c.if-work-n-eq0.true))

pub overflow_add-result : goal.overflow_add-result
unfolding link_at
overflow_add-result c = omega (arith, c.requires.0.free c.if-work-n-eq0.true)

pub shape_of-work : goal.shape_of-work
shape_of-work c = simp length-set

pub returns-then-work-n-eq0 : goal.returns-then-work-n-eq0
unfolding visited link_at
returns-then-work-n-eq0 c = rw (eq-eqb _ _ c.if-work-n-eq0.true)

pub returns-else-work-n-eq0 : goal.returns-else-work-n-eq0
unfolding visited link_at
returns-else-work-n-eq0 c = rw (ne_eqb _ _ c.if-work-n-eq0.false)
