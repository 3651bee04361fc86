-- Nothing to believe: words for laws alone. What a sheet that is not refused is like, as 01 says it ("A sheet") and 02
-- (K1). SoundLaws says that it is so.
use Rattle.std.specs.Prelude.{◌≡◌, ◌⊎◌, ◌≢◌, List, ℕ, ◌^◌, ◌≤◌, ◌<◌}
use Rattle.events.specs.Bit.{bit, Within}
use Rattle.walks.specs.Graph.{WellFormed}
use Rattle.sheet_spec.specs.declared.Sheet.{Sheet}
use Rattle.sheet_spec.specs.Kept.{code, row, successor, acceptance, graph, Walk}

-- E is 1 to 12 and N is 1 to 32
pub record Ranges (e n : ℕ) : Type 0 where
  pub e_low : 1 ≤ e
  pub e_high : e ≤ 12
  pub n_low : 1 ≤ n
  pub n_high : n ≤ 32

-- what 01 says of an accepted sheet, item by item
pub record Sound (s : Sheet) : Type 0 where
  -- E is 1 to 12, N is 1 to 32; node 0 is there
  pub ranges : Ranges s.e s.n
  -- no two events have one code
  pub codes_differ : (i j : ℕ) → i < s.e → j < s.e → i ≢ j → code s i ≢ code s j
  -- a node has 1 to 16 sets
  pub counts : (v : ℕ) → v < s.n → (1 ≤ (row s v).c) × ((row s v).c ≤ 16)
  -- a successor is none, or a node
  pub successors : (v i : ℕ) → v < s.n → i < s.e → (successor (row s v) i ≡ 255) ⊎ (successor (row s v) i < s.n)
  -- unused places hold 255 and 0
  pub unused_event : (v i : ℕ) → v < s.n → s.e ≤ i → i < 12 → successor (row s v) i ≡ 255
  pub unused_place : (v j : ℕ) → v < s.n → (row s v).c ≤ j → j < 16 → acceptance (row s v) j ≡ 0
  pub unused_successor : (v i : ℕ) → s.n ≤ v → v < 32 → i < 12 → successor (row s v) i ≡ 255
  pub unused_set : (v j : ℕ) → s.n ≤ v → v < 32 → j < 16 → acceptance (row s v) j ≡ 0
  pub unused_count : (v : ℕ) → s.n ≤ v → v < 32 → (row s v).c ≡ 0
  pub unused_code : (i : ℕ) → s.e ≤ i → i < 12 → code s i ≡ 0
  -- the sets of a node are strictly ascending
  pub ascending : (v j k : ℕ) → v < s.n → j < k → k < (row s v).c → acceptance (row s v) j < acceptance (row s v) k
  -- the sets of a node lie inside its initials, which lead to nodes
  pub inside : (v j i : ℕ) → v < s.n → j < (row s v).c → bit (acceptance (row s v) j) i ≡ 1 → (i < s.e) × (successor (row s v) i < s.n)
  pub narrow : (v j : ℕ) → v < s.n → j < (row s v).c → acceptance (row s v) j < 2 ^ s.e
  -- no set of a node includes another
  pub antichain : (v j k : ℕ) → v < s.n → j < (row s v).c → k < (row s v).c → j ≢ k → ¬ Within (acceptance (row s v) j) (acceptance (row s v) k)
  -- the empty set stands alone
  pub stop_alone : (v j : ℕ) → v < s.n → j < (row s v).c → acceptance (row s v) j ≡ 0 → (row s v).c ≡ 1
  -- some list of events leads to each node
  pub reached : (v : ℕ) → v < s.n → (t : List ℕ) × Walk s 0 t v
  -- the graph of the sheet serves the theory of walks
  pub graphed : WellFormed (graph s)
