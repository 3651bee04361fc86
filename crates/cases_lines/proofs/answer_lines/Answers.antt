-- A line that ends is answered; the rest is what is left to answer.
use denote.Param.Always.{mut_next}
use Rattle.std.proofs.Common.{refl}
use Rattle.cases_lines.specs.Lines.{new_line, ended}
use Rattle.cases_lines.proofs.Ends.{ended_here, ended_later, ended_none}
use Rattle.cases_lines.proofs.answer_lines.Goals as goal

pub loop-b-preserved-then-is_end : goal.loop-b-preserved-then-is_end
loop-b-preserved-then-is_end g c = (
  mut_next _ _ _ _ _ _ c.answer.ensures refl c.loop-b.invariant.0,
  λ last h. c.loop-b.invariant.1 last
      (rw (ended_here c.loop-b.line c.in-Some.ensures.cases.0 c.heard-heard.ensures c.is_end.ensures c.if-is_end.true c.new_line-line-then-is_end.ensures) (c.answer.new.self, c.answer.ensures, h)),
)

pub loop-b-preserved : goal.loop-b-preserved
loop-b-preserved g c =
    (c.loop-b.invariant.0, λ last h. c.loop-b.invariant.1 last (rw (ended_later c.loop-b.line c.in-Some.ensures.cases.0 c.heard-heard.ensures c.is_end.ensures c.if-is_end.false) h))

pub returns : goal.returns
returns g c = (c.loop-b.answer, c.loop-b.invariant.1 c.loop-b.answer (rw (ended_none c.loop-b.line _ c.in_default.ensures.cases) refl))
