-- `tables::advance`: at the last length the counts are read off, before it a round is made and the next one asked for.
use Rattle.std.proofs.Common.{refl, arith}
use Rattle.std.proofs.Math.Nat.{mul-le-mul}
use Rattle.scripts.proofs.tables.Cells.{first_put}
use Rattle.scripts.proofs.tables.Rounds.{rounds_end, rounds_sizes, rounds_small, rounds_power, rounds_next}
use Rattle.scripts.proofs.tables.+advance.Goals as goal

pub returns-then-l-wanted : goal.returns-then-l-wanted
returns-then-l-wanted t c = rounds_end _ _ _ _ _ _ _ _ _ _ c.requires.0 c.if-l-wanted.true _ (first_put _ c.args.out.now c.requires.1)

pub overflow_mul-p : goal.overflow_mul-p
overflow_mul-p t c = let s = c.requires.0 in omega (arith, mul-le-mul s.p_few s.q_few)

pub put_stops-requires : goal.put_stops-requires
put_stops-requires t c = let s = c.requires.0 in (omega (arith, mul-le-mul s.p_few s.q_few), s.from_long)

pub fill-requires : goal.fill-requires
fill-requires t c =
    let s = c.requires.0 in
    let k = c.if-l-wanted.false in
    (rounds_sizes _ _ _ _ _ _ _ _ _ _ s k, rounds_small _ _ _ _ _ _ _ _ _ _ s k _ c.put_stops.ensures, s.to_long)

pub overflow_add-l : goal.overflow_add-l
overflow_add-l t c = omega (arith, c.requires.0.L-few)

pub overflow_mul-power : goal.overflow_mul-power
overflow_mul-power t c = let s = c.requires.0 in omega (arith, rounds_power _ _ _ _ _ _ _ _ _ _ s c.if-l-wanted.false _ refl)

pub advance-requires : goal.advance-requires
advance-requires t c =
    let k = c.if-l-wanted.false in (
      omega (arith, k),
      (rounds_next _ _ _ _ _ _ _ _ _ _ c.requires.0 k _ c.put_stops.ensures _ _ refl c.fill.ensures, c.requires.1),
    )

pub returns : goal.returns
returns t c = c.advance.ensures
