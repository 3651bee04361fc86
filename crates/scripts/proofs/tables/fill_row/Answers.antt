use mathlib.Core.Path.{sym, ◌∙◌}
use native.Mathlib.Nat.{suc-mul}
use native.Mathlib.Numerals.{add-one}
use native.Mathlib.Omega.{arith}
use Rattle.scripts.proofs.tables.Cells.{pair_few, filled_more, filled_as, next_pair}
use Rattle.scripts.proofs.tables.fill_row.Goals as goal

pub loop-m-init : goal.loop-m-init
loop-m-init c = (omega arith, filled_as _ _ _ _ (omega arith) c.requires.3)

pub pair_counts-counts-requires : goal.pair_counts-counts-requires
pair_counts-counts-requires c =
    let s = c.requires in
    (s.0, omega (arith, s.0.p_few, s.1), omega (arith, s.0.q_few), s.2)

pub overflow_mul-n : goal.overflow_mul-n
overflow_mul-n c = let s = c.requires in omega (arith, pair_few _ _ _ _ s.0.p_few s.0.q_few s.1 c.loop-m-test.true)

pub overflow_add-n : goal.overflow_add-n
overflow_add-n c = let s = c.requires in omega (arith, pair_few _ _ _ _ s.0.p_few s.0.q_few s.1 c.loop-m-test.true)

pub store-requires : goal.store-requires
store-requires c =
    let s = c.requires in
    (omega (arith, pair_few _ _ _ _ s.0.p_few s.0.q_few s.1 c.loop-m-test.true), c.loop-m.invariant.1.long)

pub overflow_step-m : goal.overflow_step-m
overflow_step-m c = omega (arith, c.requires.0.q_few)

pub loop-m-preserved : goal.loop-m-preserved
loop-m-preserved c = (
  omega arith,
  filled_as _ _ _ _ (omega arith)
      (filled_more _ _ _ _ _ c.loop-m.invariant.1 c.store.ensures
      (c.pair_counts-counts.ensures ∙ sym (next_pair _ _ _ _ _ _ _ _ c.loop-m-test.true))),
)

pub returns : goal.returns
returns c =
    let s = c.args in
    filled_as _ _ _ _ (omega (arith, suc-mul s.n s.q, add-one s.n)) c.loop-m.invariant.1
