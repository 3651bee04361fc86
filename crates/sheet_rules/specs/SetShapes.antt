-- Nothing to believe: the shape in which the inner functions see a row. A law joins it to the rules.
use Rattle.std.specs.Prelude.{List, [], ℕ}
use Rattle.sheet_spec.specs.declared.Row.{Row}

-- a row of which only the sets are told
unfoldable pub sets_alone : List ℕ → Row
sets_alone l = record { succ = []; sets = l; c = 0 }
