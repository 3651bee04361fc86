-- The tests are those of the definition, in its order.
use Rattle.std.proofs.Common.{rules, sym, ◌∙◌, arith}
use Rattle.refusals.proofs.NumberLaws.{number_some}
use Rattle.verdicts.proofs.Pairs.{sizes}
use Rattle.verdicts.proofs.Verdicts.{pair_refused, number_refused, test_judged}
use Rattle.verdicts.proofs.judge.Goals as goal

pub returns-in_err-check_pair : goal.returns-in_err-check_pair
returns-in_err-check_pair c = search (rules, pair_refused c.args.trace_only _ _ c.args.k c.in_err-check_pair.ensures (number_some _))

pub returns-then-k-gt1023 : goal.returns-then-k-gt1023
returns-then-k-gt1023 c = number_refused _ _ _ _ c.in_ok-check_pair.ensures c.if-k-gt1023.true

pub is_failing-requires : goal.is_failing-requires
is_failing-requires c =
    let s = sizes _ _ c.in_ok-check_pair.ensures in
    (omega (arith, s), omega (arith, s), omega (arith, s), omega (arith, s), omega (arith, s))

pub returns-then-is_failing : goal.returns-then-is_failing
returns-then-is_failing c =
    test_judged _ _ _ _ c.in_ok-check_pair.ensures c.if-k-gt1023.false
    (sym c.if-is_failing.true ∙ rw (c.from-e.ensures, c.from-p.ensures, c.from-q.ensures, c.from.ensures) at c.is_failing.ensures)

pub returns-else-is_failing : goal.returns-else-is_failing
returns-else-is_failing c =
    test_judged _ _ _ _ c.in_ok-check_pair.ensures c.if-k-gt1023.false
    (sym c.if-is_failing.false ∙ rw (c.from-e.ensures, c.from-p.ensures, c.from-q.ensures, c.from.ensures) at c.is_failing.ensures)
