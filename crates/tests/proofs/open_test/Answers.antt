-- The answer of an opening is that of the definition, and says the refusal.
use Rattle.std.proofs.Common.{sym, arith}
use Rattle.refusals.proofs.NumberLaws.{number_some}
use Rattle.tests_spec.specs.Runs.{new_run}
use Rattle.tests_spec.proofs.RunLaws.{open_going, open_denied}
use Rattle.tests_spec.proofs.NumberLaws.{opening_refusal}
use Rattle.tests.proofs.Steps.{opened, flag_byte, told}
use Rattle.tests.proofs.open_test.Goals as goal

pub offer-first-requires : goal.offer-first-requires
offer-first-requires c = opened c.args.sheet c.args.k (sym c.in-Ok.ensures)

pub returns-in-Ok : goal.returns-in-Ok
unfolding new_run
returns-in-Ok c =
    told (rw (c.offer-first.ensures, c.from.ensures, flag_byte c.args.trace_only) (open_going c.args.sheet c.args.k c.args.h c.args.trace_only (sym c.in-Ok.ensures)))
    (opening_refusal c.args.trace_only c.args.sheet c.args.k c.args.h)

pub returns-in-Err : goal.returns-in-Err
returns-in-Err c =
    told (rw (c.from-in-Err.ensures, c.in-Err.ensures) (open_denied c.args.sheet c.args.k c.args.h c.args.trace_only (λ z. omega (arith, number_some c.in-Err.refusal))))
    (opening_refusal c.args.trace_only c.args.sheet c.args.k c.args.h)
