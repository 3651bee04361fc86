-- How near a bad node is, over any test `bad` of nodes, and the least trace to one.
use Rattle.std.specs.Prelude.{◌≡◌, Bool, true, ◌&&◌}
use mathlib.Core.List.{List, [], ◌∷◌}
use Prim.Native.Nat.{ℕ, zero, suc, ◌<◌}
use Rattle.std.proofs.Math.Dec.{ltb}
use Rattle.base.specs.Range.{any, first}
use Rattle.walks.specs.Graph.{Graph, walk}

-- The events of t lead from n to a node that is bad.
pub record LeadsToBad (g : Graph) (bad : ℕ → Bool) (n : ℕ) (t : List ℕ) : Type 0 where
  pub inside : walk g n t < g.size
  pub ends : bad (walk g n t) ≡ true

module _ (g : Graph) (bad : ℕ → Bool) where
  -- Test: from n a bad node is reached in exactly j events.
  unfoldable pub meets_in : ℕ → ℕ → Bool
  meets_in zero n = bad n
  meets_in (suc j) n = any (λ i. ltb (g.next n i) g.size && meets_in j (g.next n i)) g.events

  -- The least number of events in which a bad node is reached from the start; the number of nodes if none is.
  unfoldable pub distance : ℕ
  distance = first (λ j. meets_in j 0) g.size

  -- Test: event i leads from n to a node from which a bad node is reached in exactly j events.
  unfoldable pub later : ℕ → ℕ → ℕ → Bool
  later j n i = ltb (g.next n i) g.size && meets_in j (g.next n i)

  -- The smallest event that leads from n to a node from which a bad node is reached in exactly j events.
  unfoldable pub choice : ℕ → ℕ → ℕ
  choice j n = first (later j n) g.events

  -- j events from n to a bad node, each the smallest after which a bad node is still reached in time.
  unfoldable pub least_from : ℕ → ℕ → List ℕ
  least_from zero n = []
  least_from (suc j) n = choice j n ∷ least_from j (g.next n (choice j n))

  -- The nearest bad node's trace that is least in event order.
  unfoldable pub least_trace : List ℕ
  least_trace = least_from distance 0
