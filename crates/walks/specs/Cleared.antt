-- How many nodes are reached by walks of fewer than d events.
use Rattle.std.specs.Prelude.{ℕ}
use Rattle.base.specs.Count.{count}
use Rattle.walks.specs.Graph.{Graph}
use Rattle.walks.specs.Reach.{nearer}

-- How many nodes are reached in fewer than d events.
unfoldable pub cleared : Graph → ℕ → ℕ
cleared g d = count (nearer g d) g.size
