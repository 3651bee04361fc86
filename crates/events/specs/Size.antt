-- How many events a set has.
use Rattle.std.specs.Prelude.{ℕ}
use Rattle.base.specs.Count.{count}
use Rattle.events.specs.Sets.{has}

-- how many events X has; a set of 16 bits has places for 16
unfoldable pub size : ℕ → ℕ
size X = count (has X) 16
