-- Nothing to believe: laws of what specs/Cleared.antt defines.
use Rattle.std.specs.Prelude.{◌≡◌, ◌↔◌, ℕ, ◌≤◌, ◌<◌}
use Rattle.std.proofs.Common.{arith}
use Rattle.base.proofs.Truth.{same}
use Rattle.base.proofs.Count.{count_same}
use Rattle.base.specs.Counted.{Counted}
use Rattle.base.proofs.CountedLaws.{count_means}
use Rattle.walks.specs.Graph.{Graph, WellFormed}
use Rattle.walks.specs.Reach.{ReachedBefore, Reachable, nearer}
use Rattle.walks.proofs.Reach.{nearer_means, nearer_all}
use Rattle.walks.specs.Cleared.{cleared}

module _ {g : Graph} (w : WellFormed g) where
  -- the count is L exactly if L different nodes are all those that a list of fewer than d events reaches
  pub cleared_means : (d L : ℕ) → (cleared g d ≡ L) ↔ Counted (λ v. (v < g.size) × ReachedBefore g d v) L
  unfolding cleared
  cleared_means d L = count_means (nearer g d) g.size L (nearer_means w d)

  -- from the number of nodes on, all nodes are counted that a list of any length reaches
  pub cleared_all : (d L : ℕ) → g.size ≤ d → (cleared g d ≡ L) ↔ Counted (λ v. (v < g.size) × Reachable g v) L
  unfolding cleared
  cleared_all d L h = count_means (nearer g d) g.size L (λ v k. nearer_all w d v h k)

  pub cleared_more : (d : ℕ) → g.size ≤ d → cleared g d ≡ cleared g g.size
  unfolding cleared
  cleared_more d h = count_same (nearer g d) (nearer g g.size) g.size
      (λ v k. same (nearer g d v) (nearer g g.size v)
      (λ e. (nearer_all w g.size v (omega arith) k).1 ((nearer_all w d v h k).0 e))
      (λ e. (nearer_all w d v h k).1 ((nearer_all w g.size v (omega arith) k).0 e)))
