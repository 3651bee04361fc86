-- The tests are those of the definition, in its order; then one pass writes the verdicts.
use Rattle.std.proofs.Common.{rules}
use Rattle.refusals.proofs.NumberLaws.{number_some}
use Rattle.verdicts.proofs.Judging.{suite_pair_refused, room_refused, all_judged}
use Rattle.verdicts.proofs.judge_all.Goals as goal

pub returns-in_err-check_pair : goal.returns-in_err-check_pair
returns-in_err-check_pair c = search (rules, suite_pair_refused c.args.trace_only _ _ c.args.out.now c.in_err-check_pair.ensures (number_some _))

pub returns-then-out-total : goal.returns-then-out-total
returns-then-out-total c = room_refused _ _ _ _ c.in_ok-check_pair.ensures (rw (c.from-p.ensures, c.from-q.ensures) at c.if-out-total.true)

pub returns : goal.returns
returns c =
    rw (c.from-p.ensures, c.from-q.ensures)
    (all_judged _ _ _ _ c.in_ok-check_pair.ensures (rw (c.from-p.ensures, c.from-q.ensures) at c.if-out-total.false)
    (rw (c.from-e.ensures, c.from-p.ensures, c.from-q.ensures) at c.failing_all.ensures))
