-- The events of a set as a list.
use Rattle.std.specs.Prelude.{List, ℕ}
use Rattle.base.specs.Gather.{select}
use Rattle.events.specs.Sets.{has}

-- the events of a set that are below n, ascending
unfoldable pub events_in : ℕ → ℕ → List ℕ
events_in x n = select (has x) n
