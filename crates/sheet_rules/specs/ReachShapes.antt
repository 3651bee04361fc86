-- Nothing to believe: the shapes of loops. Inner functions cite them; laws join them to the walks of a sheet.
use Rattle.std.specs.Prelude.{cond, List, ℕ, zero, suc, get_or}
use Rattle.std.specs.Int.Bits.{bit_or}
use Rattle.events.specs.Sets.{has}
use Rattle.sheet_spec.specs.declared.Sheet.{Sheet}
use Rattle.sheet_spec.specs.Kept.{row}
use Rattle.sheet_rules.specs.RowShapes.{targets}

-- the nodes to which one event leads from node v, as a set
unfoldable pub targets_of : Sheet → ℕ → ℕ
targets_of s v = targets s.e (row s v)

-- a set of nodes `set` joins `next`, if node u was seen
unfoldable pub with_targets : ℕ → ℕ → ℕ → ℕ → ℕ
with_targets next seen u set = cond (has seen u) (bit_or next set) next

-- one round over the first n nodes: node 0, and the sets of those that were seen
unfoldable pub grown : List ℕ → ℕ → ℕ → ℕ
grown sets seen zero = 1
grown sets seen (suc u) = with_targets (grown sets seen u) seen u (get_or sets u 0)

-- the nodes seen after k rounds over n nodes, from nothing seen
unfoldable pub rounds : List ℕ → ℕ → ℕ → ℕ
rounds sets n zero = 0
rounds sets n (suc k) = grown sets (rounds sets n k) n
