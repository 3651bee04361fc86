-- Nothing to believe: the theory of the search. Breadth-first search in one graph: what holds of its queue. Entry x
-- of the queue is the node N x. K v is the link of node v: 0 while it has no entry, 1 at the start, and link_of j i if
-- the event i of entry j first led to it, so that the order of links is the order in which the search tries events. D v
-- is the number of events that led to v.
use Rattle.std.specs.Prelude.{◌≡◌}
use mathlib.Core.List.{List, [], ◌∷◌, ◌++◌}
use Prim.Native.Nat.{ℕ, zero, suc, ◌+◌, ◌-◌, ◌*◌, ◌/◌, ◌%◌, ◌≤◌, ◌<◌}
use Rattle.std.proofs.Math.Dec.{leb}
use Rattle.base.specs.Range.{first}
use Rattle.walks.specs.Graph.{Graph}
use Rattle.walks.proofs.Bound.{bound}

-- The link to entry j and event i, and the two in a link: 16 is above every event.
abbrev pub link_of : ℕ → ℕ → ℕ
link_of j i = j * 16 + i + 2

abbrev pub entry_of : ℕ → ℕ
entry_of m = (m - 2) / 16

abbrev pub event_of : ℕ → ℕ
event_of m = (m - 2) % 16

-- Entry x was made from entry j by event i.
pub record Made (g : Graph) (N K D : ℕ → ℕ) (x j i : ℕ) : Type 0 where
  pub before : j < x
  pub event : i < g.events
  pub edge : g.next (N j) i ≡ N x
  pub link : K (N x) ≡ link_of j i
  pub depth : D (N x) ≡ D (N j) + 1

-- Where event i leads from entry x, there is an entry that was made no later than by it.
abbrev pub Tried : Graph → (ℕ → ℕ) → (ℕ → ℕ) → ℕ → ℕ → Type 0
Tried g N K x i = g.next (N x) i < g.size → (0 < K (g.next (N x) i)) × (K (g.next (N x) i) ≤ link_of x i)

-- What holds when the queue has `tail` entries and all events of the entries before `head`, and k events of entry
-- `head`, have been tried.
pub record Queue (g : Graph) (N K D : ℕ → ℕ) (head k tail : ℕ) : Type 0 where
  pub few : g.events ≤ 12
  pub some : 0 < tail
  pub root : (N 0 ≡ 0) × (K 0 ≡ 1) × (D 0 ≡ 0)
  pub entry : (x : ℕ) → x < tail → (N x < g.size) × (0 < K (N x))
  pub placed : (v : ℕ) → v < g.size → 0 < K v → (x : ℕ) × (x < tail) × (N x ≡ v)
  pub made : (x : ℕ) → 0 < x → x < tail → (j : ℕ) × (i : ℕ) × Made g N K D x j i
  pub near : (x : ℕ) → x < tail → D (N x) ≤ x
  pub rising : (x y : ℕ) → x < y → y < tail → K (N x) < K (N y)
  pub bound : (x : ℕ) → x < tail → K (N x) < link_of head k
  pub done : (x : ℕ) → x < head → (i : ℕ) → i < g.events → Tried g N K x i
  pub part : (i : ℕ) → i < k → Tried g N K head i

-- The events of the last d links that lead to entry x, first the farthest.
unfoldable pub read_back : (ℕ → ℕ) → (ℕ → ℕ) → ℕ → ℕ → List ℕ
read_back N K zero x = []
read_back N K (suc d) x = read_back N K d (entry_of (K (N x))) ++ (event_of (K (N x)) ∷ [])

-- The events that lead from the start to entry x.
abbrev pub path : (ℕ → ℕ) → (ℕ → ℕ) → (ℕ → ℕ) → ℕ → List ℕ
path N K D x = read_back N K (D (N x)) x

-- The first entry before `head` that is no nearer than `head`; `head` if there is none.
abbrev pub level_start : (ℕ → ℕ) → (ℕ → ℕ) → ℕ → ℕ
level_start N D head = first (λ x. leb (D (N head)) (D (N x))) head
