-- Nothing to believe: for contracts of inner functions. The tables of a walk: the initials of each node, twelve places
-- to a node, how many each has, and the successors of each node; and the walk that they lead along.
use Rattle.std.specs.Prelude.{◌≡◌, cond, List, [], ◌∷◌, ℕ, zero, suc, ◌+◌, ◌*◌, ◌%◌, ◌≤◌, ◌<◌, eqb, length, get_or}
use Rattle.events.specs.Sets.{has}
use Rattle.events.specs.Lists.{events_in}
use Rattle.sheet_spec.specs.declared.Row.{Row}
use Rattle.sheet_rows.specs.Tables.{initials_in}
use Rattle.load_spec.specs.Xorshift.{next_state}

-- how many events of a set are listed once event i was written, if `count` were before
unfoldable pub count_with : ℕ → ℕ → ℕ → ℕ
count_with count set i = cond (has set i) (count + 1) count

-- a table after the events of a set below i were listed in the places of node v: there they stand, ascending, and the
-- places of the nodes before it are as they were
pub record Listed (set v i : ℕ) (t t' : List ℕ) : Type 0 where
  pub long : length t' ≡ length t
  pub there : (k : ℕ) → k < length (events_in set i) → get_or t' (v * 12 + k) 0 ≡ get_or (events_in set i) k 0
  pub before : (k : ℕ) → k < v * 12 → get_or t' k 0 ≡ get_or t k 0

-- tables that have the initials of the first n nodes, and how many each has
pub record Tabled (rows : List Row) (e n : ℕ) (lists counts : List ℕ) : Type 0 where
  pub lists_long : length lists ≡ 384
  pub counts_long : length counts ≡ 32
  pub counted : (v : ℕ) → v < n → get_or counts v 0 ≡ length (events_in (initials_in e rows v) 12)
  pub listed : (v k : ℕ) → v < n → k < length (events_in (initials_in e rows v) 12) → get_or lists (v * 12 + k) 0 ≡ get_or (events_in (initials_in e rows v) 12) k 0

-- tables by which no walk leaves the nodes: there are some, at most 32, each has at most twelve initials, and each of
-- these is an event that leads to one of them
pub record Leads (lists counts next : List ℕ) : Type 0 where
  pub nodes : ℕ
  pub some : 0 < nodes
  pub nodes_few : nodes ≤ 32
  pub counts_few : (v : ℕ) → v < nodes → get_or counts v 0 ≤ 12
  pub events_low : (v k : ℕ) → v < nodes → k < get_or counts v 0 → get_or lists (v * 12 + k) 0 < 12
  pub inside : (v k : ℕ) → v < nodes → k < get_or counts v 0 → get_or next (v * 12 + get_or lists (v * 12 + k) 0) 0 < nodes

-- the event that the state x draws at node v, by the tables
unfoldable pub table_drawn : List ℕ → List ℕ → ℕ → ℕ → ℕ
table_drawn lists counts v x = get_or lists (v * 12 + x % get_or counts v 0) 0

-- the walk of at most l events from node v on, where the state is x, by the tables
unfoldable pub table_walk : List ℕ → List ℕ → List ℕ → ℕ → ℕ → ℕ → List ℕ
table_walk lists counts next zero v x = []
table_walk lists counts next (suc l) v x =
    cond (eqb (get_or counts v 0) 0) []
    (table_drawn lists counts v (next_state x) ∷ table_walk lists counts next l (get_or next (v * 12 + table_drawn lists counts v (next_state x)) 0) (next_state x))
