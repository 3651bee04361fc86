-- The lines that end in the rest of the bytes, after those that were answered, are all of them.
use Rattle.std.specs.List.{FoldsTo}
use Rattle.std.proofs.Common.{length}
use Rattle.cases_lines.specs.Lines.{new_line, ended}
use Rattle.cases_lines.proofs.answer_lines.Given as goal

abbrev pub invariant-loop-b : goal.invariant-loop-b
invariant-loop-b g l =
    goal.F-IsAlwaysCallable g l.answer
    × ((last : _) → FoldsTo (λ p x q. goal.F-step g p x tt q) l.answer (ended l.line l.rest) last
    → FoldsTo (λ p x q. goal.F-step g p x tt q) l.fn.answer (ended new_line l.fn.cases) last)

abbrev pub decreases-loop-b : goal.decreases-loop-b
decreases-loop-b g l = length l.rest
