-- Two graphs side by side: common traces, the nearest bad pair and the least trace to one, and how many pairs are
-- reached. All of it is the theory of one graph, at the product.
use Rattle.std.specs.Prelude.{◌≡◌, Bool, true, length}
use mathlib.Core.List.{List}
use Prim.Native.Nat.{ℕ, ◌/◌, ◌%◌, ◌<◌}
use Rattle.walks.specs.Graph.{Graph, walk}
use Rattle.walks.specs.Near.{distance}
use Rattle.walks.specs.Near.{least_trace}
use Rattle.walks.specs.Cleared.{cleared}
use Rattle.walks.specs.Product.{product}

-- The events of t lead in both graphs from (n, m) to nodes, and the pair of these is bad.
pub record PairLeads (r d : Graph) (bad : ℕ → ℕ → Bool) (n m : ℕ) (t : List ℕ) : Type 0 where
  pub in_r : walk r n t < r.size
  pub in_d : walk d m t < d.size
  pub ends : bad (walk r n t) (walk d m t) ≡ true

-- A common list of fewer than k events leads to the pair (n, m).
abbrev pub PairReachedBefore : Graph → Graph → ℕ → ℕ → ℕ → Type 0
PairReachedBefore r d k n m = (t : List ℕ) × (length t < k) × (walk r 0 t ≡ n) × (walk d 0 t ≡ m)

-- A common list of events, however long, leads to the pair (n, m).
abbrev pub PairReachable : Graph → Graph → ℕ → ℕ → Type 0
PairReachable r d n m = (t : List ℕ) × (walk r 0 t ≡ n) × (walk d 0 t ≡ m)

-- The L places of N and M list, each once, the pairs of a node of r and a node of d that have the property P.
pub record PairLists (r d : Graph) (P : ℕ → ℕ → Type 0) (L : ℕ) (N M : ℕ → ℕ) : Type 0 where
  pub in_r : (x : ℕ) → x < L → N x < r.size
  pub in_d : (x : ℕ) → x < L → M x < d.size
  pub holds : (x : ℕ) → x < L → P (N x) (M x)
  pub differ : (x y : ℕ) → x < y → y < L → (N x ≡ N y) × (M x ≡ M y) → ⊥
  pub every : (n m : ℕ) → n < r.size → m < d.size → P n m → (x : ℕ) × (x < L) × (N x ≡ n) × (M x ≡ m)

-- A test of pairs as a test of the product's nodes.
unfoldable pub on_codes : Graph → (ℕ → ℕ → Bool) → ℕ → Bool
on_codes d bad c = bad (c / d.size) (c % d.size)

-- The least number of common events in which a bad pair is reached; the number of pairs if none is.
unfoldable pub pair_distance : Graph → Graph → (ℕ → ℕ → Bool) → ℕ
pair_distance r d bad = distance (product r d) (on_codes d bad)

-- The nearest bad pair's common trace that is least in event order.
unfoldable pub pair_trace : Graph → Graph → (ℕ → ℕ → Bool) → List ℕ
pair_trace r d bad = least_trace (product r d) (on_codes d bad)

-- How many pairs are reached in fewer than k common events.
unfoldable pub pair_cleared : Graph → Graph → ℕ → ℕ
pair_cleared r d k = cleared (product r d) k
