-- Nothing to believe: the shape of a loop. An inner function cites it, a law joins it to the initials.
use Rattle.std.specs.Prelude.{not, ◌&&◌, cond, ℕ, eqb, ltb}
use Rattle.events.specs.Sets.{insert}
use Rattle.sheet_spec.specs.declared.Row.{Row}
use Rattle.sheet_spec.specs.Kept.{successor}

-- a set with event i, if i is below e and has a successor
unfoldable pub initial_added : ℕ → Row → ℕ → ℕ → ℕ
initial_added e r x i = cond (ltb i e && not (eqb (successor r i) 255)) (insert x i) x
