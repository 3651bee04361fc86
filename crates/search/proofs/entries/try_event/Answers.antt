-- `entries::try_event`: the pair is visited where both tables have a successor.
use native.Mathlib.Omega.{arith}
use Rattle.search_theory.proofs.Steps.{step_facts, step_product, step_visit_ok, step_both, step_first, step_second}
use Rattle.search.proofs.entries.try_event.Goals as goal

pub overflow_mul-at : goal.overflow_mul-at
overflow_mul-at c = omega (arith, step_facts _ _ _ _ _ _ _ _ _ _ _ c.requires)

pub overflow_add-at : goal.overflow_add-at
overflow_add-at c = omega (arith, step_facts _ _ _ _ _ _ _ _ _ _ _ c.requires)

pub bounds-a-at : goal.bounds-a-at
bounds-a-at c = omega (arith, step_facts _ _ _ _ _ _ _ _ _ _ _ c.requires)

pub overflow_mul-at-then-r-p : goal.overflow_mul-at-then-r-p
overflow_mul-at-then-r-p c = omega (arith, step_facts _ _ _ _ _ _ _ _ _ _ _ c.requires)

pub overflow_add-at-then-r-p : goal.overflow_add-at-then-r-p
overflow_add-at-then-r-p c = omega (arith, step_facts _ _ _ _ _ _ _ _ _ _ _ c.requires)

pub bounds-b-at : goal.bounds-b-at
bounds-b-at c = omega (arith, step_facts _ _ _ _ _ _ _ _ _ _ _ c.requires)

pub overflow_mul-r : goal.overflow_mul-r
overflow_mul-r c =
    omega (
      arith,
      (step_product _ _ _ _ _ _ _ _ _ _ _
          c.requires _ _
          c.if-r-p.true c.if-d-q.true).0,
    )

pub overflow_add-r : goal.overflow_add-r
overflow_add-r c =
    omega (
      arith,
      (step_product _ _ _ _ _ _ _ _ _ _ _
          c.requires _ _
          c.if-r-p.true c.if-d-q.true).0,
      step_facts _ _ _ _ _ _ _ _ _ _ _
          c.requires,
    )

pub overflow_mul-at-then-d-q : goal.overflow_mul-at-then-d-q
overflow_mul-at-then-d-q c =
    omega (
      arith,
      step_facts _ _ _ _ _ _ _ _ _ _ _
          c.requires,
    )

pub overflow_add-at-then-d-q : goal.overflow_add-at-then-d-q
overflow_add-at-then-d-q c =
    omega (
      arith,
      step_facts _ _ _ _ _ _ _ _ _ _ _
          c.requires,
    )

pub overflow_add-at-then-d-q-2 : goal.overflow_add-at-then-d-q-2
overflow_add-at-then-d-q-2 c =
    omega (
      arith,
      step_facts _ _ _ _ _ _ _ _ _ _ _
          c.requires,
    )

pub visit-requires : goal.visit-requires
visit-requires c = (
  step_visit_ok _ _ _ _ _ _ _ _ _ _ _
      c.requires _ _
      c.if-r-p.true c.if-d-q.true,
  omega (
    arith,
    step_facts _ _ _ _ _ _ _ _ _ _ _
        c.requires,
  ),
)

pub shape_of-work-then-d-q : goal.shape_of-work-then-d-q
shape_of-work-then-d-q c = c.visit.auto.work

pub returns-then-d-q : goal.returns-then-d-q
returns-then-d-q c =
    step_both _ _ _ _ _ _ _ _ _ _ _
    c.requires _ _ _
    c.from-r.ensures
    c.from-d.ensures
    c.if-r-p.true
    c.if-d-q.true c.visit.ensures

pub returns-else-d-q : goal.returns-else-d-q
returns-else-d-q c =
    step_second _ _ _ _ _ _ _ _ _ _ _ c.requires _
    c.from-d.ensures c.if-d-q.false

pub returns-else-r-p : goal.returns-else-r-p
returns-else-r-p c =
    step_first _ _ _ _ _ _ _ _ _ _ _ c.requires _ c.from-r.ensures c.if-r-p.false
