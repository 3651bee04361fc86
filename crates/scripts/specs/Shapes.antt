-- Nothing to believe: for contracts of inner functions. Tables of counts, three numbers to a pair of nodes, and the
-- counts of scripts over flat tables of successors.
use Rattle.std.specs.Prelude.{◌≡◌, ◌≢◌, cond, List, ℕ, zero, suc, ◌+◌, ◌*◌, ◌/◌, ◌%◌, ◌^◌, ◌≤◌, ◌<◌, ltb, length, get_or}
use Rattle.sheet_spec.specs.declared.Sheet.{Sheet}
use Rattle.scripts_spec.specs.Scripts.{Walked, DeviceStops, ReferenceStops, count_from}
use Rattle.scripts_spec.specs.declared.Counts.{Counts}

-- the counts of two sheets for l events from the pair (n, m) on
abbrev pub counts_from : Sheet → Sheet → ℕ → ℕ → ℕ → Counts
counts_from P Q l n m =
    record { walked = count_from P Q l n m Walked; device = count_from P Q l n m DeviceStops; reference = count_from P Q l n m ReferenceStops }

-- nothing counted yet
abbrev pub none : Counts
none = record { walked = 0; device = 0; reference = 0 }

-- one script, which both walk
abbrev pub one : Counts
one = record { walked = 1; device = 0; reference = 0 }

-- the sums of two counts
unfoldable pub plus : Counts → Counts → Counts
plus c d = record { walked = c.walked + d.walked; device = c.device + d.device; reference = c.reference + d.reference }

-- the counts at place c of a table
unfoldable pub cell : List ℕ → ℕ → Counts
cell t c = record { walked = get_or t (c * 3) 0; device = get_or t (c * 3 + 1) 0; reference = get_or t (c * 3 + 2) 0 }

-- the counts of the pair of x and y, of q nodes of the device
abbrev pub cell_in : List ℕ → ℕ → ℕ → ℕ → Counts
cell_in t q x y = cell t (x * q + y)

-- the counts of the scripts that go on with one event, to x and y; `power` is how many there are, `after` counts them
-- where both can do the event
unfoldable pub event_counts : ℕ → ℕ → ℕ → ℕ → ℕ → Counts → Counts
event_counts power p q x y after =
    cond (ltb y q) (cond (ltb x p) after (record { walked = 0; device = 0; reference = power })) (record { walked = 0; device = power; reference = 0 })

-- the sums over the first i events at the pair (n, m), by flat tables a and b of successors
unfoldable pub sums : List ℕ → List ℕ → ℕ → ℕ → ℕ → ℕ → ℕ → (ℕ → ℕ → Counts) → ℕ → Counts
sums a b power p q n m after zero = none
sums a b power p q n m after (suc i) =
    plus (sums a b power p q n m after i)
    (event_counts power p q (get_or a (n * 12 + i) 0) (get_or b (m * 12 + i) 0) (after (get_or a (n * 12 + i) 0) (get_or b (m * 12 + i) 0)))

-- the counts for l events from the pair (n, m) on, by flat tables
unfoldable pub table_counts : List ℕ → List ℕ → ℕ → ℕ → ℕ → ℕ → ℕ → ℕ → Counts
table_counts a b p q e zero n m = one
table_counts a b p q e (suc l) n m = sums a b (e ^ l) p q n m (table_counts a b p q e l) e

-- the place that an event leads to, by its nodes x and y: that of the pair; after the pairs, that of what the reference
-- stops, and that of what the device stops
unfoldable pub place : ℕ → ℕ → ℕ → ℕ → ℕ
place p q x y = cond (ltb y q) (cond (ltb x p) (x * q + y) (p * q)) (p * q + 1)

-- the sums over the places of the first i events at the pair (n, m)
unfoldable pub place_sums : List ℕ → List ℕ → ℕ → ℕ → List ℕ → ℕ → ℕ → ℕ → Counts
place_sums a b p q t n m zero = none
place_sums a b p q t n m (suc i) = plus (place_sums a b p q t n m i) (cell t (place p q (get_or a (n * 12 + i) 0) (get_or b (m * 12 + i) 0)))

-- what a table for one event more holds at place c
unfoldable pub next_cell : List ℕ → List ℕ → ℕ → ℕ → ℕ → List ℕ → ℕ → Counts
next_cell a b p q e before c = place_sums a b p q before (c / q) (c % q) e

-- each of three counts is at most x
pub record Most (x : ℕ) (c : Counts) : Type 0 where
  pub walked : c.walked ≤ x
  pub device : c.device ≤ x
  pub reference : c.reference ≤ x

-- the most scripts that go on with one event: 12 to the power 15
abbrev pub most : ℕ
most = 15407021574586368

-- no count of a table, its two last places included, exceeds that
abbrev pub Small : List ℕ → ℕ → ℕ → Type 0
Small t p q = (c : ℕ) → c < p * q + 2 → Most most (cell t c)

-- the numbers of nodes and of events are in range
pub record Sizes (p q e : ℕ) : Type 0 where
  pub p_few : p ≤ 32
  pub q_few : q ≤ 32
  pub e_few : e ≤ 12

-- a table after the counts of one place were put: they stand there, and all else as before
pub record Stored (t : List ℕ) (c : ℕ) (v : Counts) (t' : List ℕ) : Type 0 where
  pub long : length t' ≡ length t
  pub there : cell t' c ≡ v
  pub others : (k : ℕ) → k ≢ c → cell t' k ≡ cell t k

-- a table after what an event adds that cannot be done was put: it stands after the pairs, which are as before
pub record Stopped (t : List ℕ) (pairs power : ℕ) (t' : List ℕ) : Type 0 where
  pub long : length t' ≡ length t
  pub reference : cell t' pairs ≡ record { walked = 0; device = 0; reference = power }
  pub device : cell t' (pairs + 1) ≡ record { walked = 0; device = power; reference = 0 }
  pub others : (k : ℕ) → k < pairs → cell t' k ≡ cell t k

-- the first c places of a table hold f
pub record Filled (f : ℕ → Counts) (c : ℕ) (t : List ℕ) : Type 0 where
  pub long : length t ≡ 3078
  pub holds : (k : ℕ) → k < c → cell t k ≡ f k

-- the first table holds the counts for l events, of which there are E to the power l; L are asked for
pub record Begun (a b : List ℕ) (p q e l L power : ℕ) (from to : List ℕ) : Type 0 where
  pub p_some : 0 < p
  pub q_some : 0 < q
  pub p_few : p ≤ 32
  pub q_few : q ≤ 32
  pub e_few : e ≤ 12
  pub l_few : l ≤ L
  pub L-few : L ≤ 16
  pub power_is : power ≡ e ^ l
  pub from_long : length from ≡ 3078
  pub to_long : length to ≡ 3078
  pub holds : (x y : ℕ) → x < p → y < q → cell_in from q x y ≡ table_counts a b p q e l x y
