-- The nodes that walks of a given length reach, and those that shorter walks reach.
use Rattle.std.specs.Prelude.{◌≡◌, Bool, false, ◌&&◌, ◌||◌, List, ℕ, zero, suc, ◌<◌, eqb, length}
use Rattle.base.specs.Range.{any}
use Rattle.walks.specs.Graph.{Graph, walk}

-- A list of exactly j events leads from the start to v.
abbrev pub ReachedIn : Graph → ℕ → ℕ → Type 0
ReachedIn g j v = (t : List ℕ) × (length t ≡ j) × (walk g 0 t ≡ v)

-- A list of fewer than k events leads from the start to v.
abbrev pub ReachedBefore : Graph → ℕ → ℕ → Type 0
ReachedBefore g k v = (t : List ℕ) × (length t < k) × (walk g 0 t ≡ v)

-- A list of events, however long, leads from the start to v.
abbrev pub Reachable : Graph → ℕ → Type 0
Reachable g v = (t : List ℕ) × (walk g 0 t ≡ v)

-- Test: some event leads from u to v.
unfoldable pub leads : Graph → ℕ → ℕ → Bool
leads g u v = any (λ i. eqb (g.next u i) v) g.events

-- Test: v is reached in exactly j events.
unfoldable pub reached : Graph → ℕ → ℕ → Bool
reached g zero v = eqb v 0
reached g (suc j) v = any (λ u. leads g u v && reached g j u) g.size

-- Test: v is reached in fewer than k events.
unfoldable pub nearer : Graph → ℕ → ℕ → Bool
nearer g zero v = false
nearer g (suc k) v = eqb v 0 || any (λ u. leads g u v && nearer g k u) g.size
