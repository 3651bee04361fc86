-- The answer to a report is that of the definition, and says the refusal.
use Rattle.std.proofs.Common.{sym, ◌∙◌, arith}
use Rattle.refusals.proofs.NumberLaws.{number_some}
use Rattle.tests_spec.proofs.RunLaws.{step_answers, step_denied}
use Rattle.tests_spec.proofs.NumberLaws.{report_refusal}
use Rattle.tests.proofs.Steps.{reported, told}
use Rattle.tests.proofs.step.Goals as goal

pub answer-answer-requires : goal.answer-answer-requires
answer-answer-requires c = reported c.args.sheet c.args.run c.args.report (sym c.in-Ok.ensures)

pub returns-in-Ok : goal.returns-in-Ok
returns-in-Ok c =
    told (step_answers c.args.sheet c.args.run c.args.report (sym c.in-Ok.ensures) ∙ sym c.answer-answer.ensures)
    (report_refusal c.args.sheet c.args.run c.args.report)

pub returns-in-Err : goal.returns-in-Err
returns-in-Err c =
    told (rw (c.from.ensures, c.in-Err.ensures) (step_denied c.args.sheet c.args.run c.args.report (λ z. omega (arith, number_some c.in-Err.refusal))))
    (report_refusal c.args.sheet c.args.run c.args.report)
