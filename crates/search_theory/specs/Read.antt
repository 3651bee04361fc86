-- Nothing to believe: the theory of the search. Reading the answer off the work list when the search has ended: the
-- trace, link by link from the last event to the first; the answer's numbers; and what the whole search leaves in its
-- lists.
use mathlib.Core.List.{List, ◌++◌}
use Prim.Native.Nat.{ℕ, zero, suc, ◌+◌, ◌-◌, ◌*◌, ◌≤◌, ◌<◌}
use Rattle.std.proofs.Math.ListN.{length, get_or, drop}
use Rattle.base.specs.Table.{up_to}
use Rattle.search_theory.specs.Queue.{entry_of}
use Rattle.search_theory.specs.Words.{words_for, node_at, link_at}
use Rattle.search_theory.specs.Steps.{Seat}

-- ---- the trace

-- d links can be followed from entry x, where N gives the node of an entry and K the link of a node: all entries on the
-- way are below m.
unfoldable pub Deep : ℕ → (ℕ → ℕ) → (ℕ → ℕ) → ℕ → ℕ → Type 0
Deep m N K x zero = Unit {0}
Deep m N K x (suc d) = (x < m) × (2 ≤ K (N x)) × Deep m N K (entry_of (K (N x))) d

-- the first d elements of a list
unfoldable pub front_of : List ℕ → ℕ → List ℕ
front_of l d = up_to (λ i. get_or l i 0) d

-- ---- the links in the places of their entries

-- The link that stands at a place.
unfoldable pub link_in : List ℕ → ℕ → ℕ
link_in l x = get_or l x 0

-- The link of entry x.
abbrev pub entry_link : ℕ → List ℕ → ℕ → ℕ
entry_link n w x = link_at n w (node_at w x)

-- The work list with the links of the first m entries in the entries' places.
unfoldable pub linked : ℕ → List ℕ → ℕ → List ℕ
linked n w m = up_to (entry_link n w) m ++ drop m w

-- what putting the links of the first m entries in the entries' places asks: the entries are there
pub record LinksOk (n : ℕ) (w : List ℕ) (m : ℕ) : Type 0 where
  pub small : n ≤ 1024
  pub room : words_for n ≤ length w
  pub upto : m ≤ n
  pub nodes : (x : ℕ) → x < m → node_at w x < n

-- what reading d links back from place x of a list of links asks
pub record BackOk (l : List ℕ) (x d : ℕ) : Type 0 where
  pub most : ℕ
  pub small : most ≤ 1024
  pub room : most ≤ length l
  pub links : Deep most (λ x. x) (link_in l) x d
  pub few : d ≤ 1024

-- one link can be followed, and then d - 1 from the place that it names
pub record Link (l : List ℕ) (x d : ℕ) : Type 0 where
  pub small : x < 1024
  pub inside : x < length l
  pub link : 2 ≤ link_in l x
  pub rest : BackOk l (entry_of (link_in l x)) (d - 1)

-- what writing the d events that lead to entry x asks
pub record TraceOk (n : ℕ) (w : List ℕ) (x d : ℕ) : Type 0 where
  pub entries : LinksOk n w (x + 1)
  pub links : Deep (x + 1) (node_at w) (link_at n w) x d
  pub few : d ≤ 1024

-- ---- the answer

-- what settling asks, where the search ended at entry h of t, at the distance d
pub record SettleOk (n : ℕ) (w : List ℕ) (h t d : ℕ) (trace : List ℕ) : Type 0 where
  pub some : h < t → Seat n h w
  pub back : h < t → TraceOk n w h d
  pub fits : h < t → d ≤ length trace

-- ---- the whole

-- What a search asks: the sizes and the lists' lengths.
pub record SearchOk (p q e : ℕ) (work trace : List ℕ) : Type 0 where
  -- 1 to 32 nodes in each graph
  pub first_some : 1 ≤ p
  pub first_most : p ≤ 32
  pub second_some : 1 ≤ q
  pub second_most : q ≤ 32
  -- at most 12 events
  pub events : e ≤ 12
  -- two words for each pair in the work list, and p q - 1 places in the trace list
  pub words : words_for (p * q) ≤ length work
  pub places : p * q - 1 ≤ length trace
