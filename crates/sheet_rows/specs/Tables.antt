-- Nothing to believe: for contracts of inner functions. Tables over all rows: the successors of all nodes, twelve to a
-- node, and the initials of each node.
use Rattle.std.specs.Prelude.{◌≡◌, List, ℕ, ◌+◌, ◌*◌, ◌/◌, ◌%◌, ◌<◌, get_or}
use Rattle.std.proofs.Common.{◌∙◌, arith}
use Rattle.std.proofs.Math.Arith.{digits_div, digits_mod}
use Rattle.base.specs.Table.{up_to}
use Rattle.base.proofs.Table.{get_or_up_to}
use Rattle.sheet_spec.specs.declared.Row.{Row}
use Rattle.sheet_spec.specs.Kept.{no_row, successor, initials}

-- the row of node v, from a list of rows
abbrev pub row_in : List Row → ℕ → Row
row_in rows v = get_or rows v no_row

-- the initials of node v, from a list of rows
unfoldable pub initials_in : ℕ → List Row → ℕ → ℕ
initials_in e rows v = initials e (row_in rows v)

-- the successor that stands at place j of the table: that of node j / 12 on event j % 12
unfoldable pub flat_at : List Row → ℕ → ℕ
flat_at rows j = successor (get_or rows (j / 12) no_row) (j % 12)

-- the table of successors holds that of each node on each event
pub flat_holds : (rows : List Row) (v i : ℕ) → v < 32 → i < 12 → get_or (up_to (flat_at rows) 384) (v * 12 + i) 0 ≡ successor (get_or rows v no_row) i
unfolding flat_at
flat_holds rows v i l k = get_or_up_to (flat_at rows) 384 (v * 12 + i) 0 (omega arith) ∙ rw (digits_div v k, digits_mod v k)
