-- `sheet_rows::with_initial` tests the two conditions of an initial one after the other.
use native.Mathlib.Omega.{arith}
use borrow.Author.Tests.{lt-ltb, le-ltb, eq-eqb, ne_eqb}
use Rattle.sheet_rows.specs.Shapes.{initial_added}
use Rattle.sheet_rows.proofs.with_initial.Goals as goal

pub returns-then-x-ne255 : goal.returns-then-x-ne255
unfolding initial_added
returns-then-x-ne255 c = λ row p. let a = c.args in rw (lt-ltb a.i a.e (omega arith), ← p, ne_eqb a.x 255 c.if-x-ne255.true) c.with_event.ensures

pub returns-else-x-ne255 : goal.returns-else-x-ne255
unfolding initial_added
returns-else-x-ne255 c = λ row p. let a = c.args in rw (lt-ltb a.i a.e (omega arith), ← p, eq-eqb a.x 255 c.if-x-ne255.false)

pub returns-else-i-e : goal.returns-else-i-e
unfolding initial_added
returns-else-i-e c = λ row p. rw (le-ltb c.args.i c.args.e (omega arith))
