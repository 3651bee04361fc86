-- Nothing to believe: words for laws alone. What is to be shown of a sheet that is made, row by row, so that it is
-- accepted (01, "A sheet"; 02, K1). MadeLaws says that it is then accepted, and that every accepted sheet is so.
use Rattle.std.specs.Prelude.{◌≡◌, ◌⊎◌, List, ℕ, ◌≤◌, ◌<◌}
use Rattle.events.specs.Bit.{bit, Within}
use Rattle.sheet_spec.specs.declared.Row.{Row}
use Rattle.sheet_spec.specs.declared.Sheet.{Sheet}
use Rattle.sheet_spec.specs.Kept.{row, successor, acceptance, Initial, Walk}
use Rattle.sheet_spec.specs.Faults.{GoodCodes}
use Rattle.sheet_spec.specs.Sound.{Ranges}

-- what 01 asks of the row of a node in use, on a sheet of e events and n nodes
pub record RowSound (e n : ℕ) (r : Row) : Type 0 where
  -- it has 1 to 16 sets
  pub c_low : 1 ≤ r.c
  pub c_high : r.c ≤ 16
  -- a successor is none, or a node
  pub successors : (i : ℕ) → i < e → (successor r i ≡ 255) ⊎ (successor r i < n)
  -- unused places hold 255 and 0
  pub unused_event : (i : ℕ) → e ≤ i → i < 12 → successor r i ≡ 255
  pub unused_place : (j : ℕ) → r.c ≤ j → j < 16 → acceptance r j ≡ 0
  -- the sets are strictly ascending, lie inside the initials, and none is included in a later one
  pub ascending : (j k : ℕ) → j < k → k < r.c → acceptance r j < acceptance r k
  pub inside : (j i : ℕ) → j < r.c → bit (acceptance r j) i ≡ 1 → Initial e r i
  pub apart : (j k : ℕ) → j < k → k < r.c → ¬ Within (acceptance r j) (acceptance r k)

-- what 01 asks of the row of an unused node
pub record RowBlank (r : Row) : Type 0 where
  pub successors : (i : ℕ) → i < 12 → successor r i ≡ 255
  pub sets : (j : ℕ) → j < 16 → acceptance r j ≡ 0
  pub count : r.c ≡ 0

-- what 01 and 02 ask of a sheet: of E and N, of the codes, of each row, and that every node is reached
pub record Made (s : Sheet) : Type 0 where
  pub ranges : Ranges s.e s.n
  pub codes : GoodCodes s.e s.codes
  pub used : (v : ℕ) → v < s.n → RowSound s.e s.n (row s v)
  pub unused : (v : ℕ) → s.n ≤ v → v < 32 → RowBlank (row s v)
  pub reached : (v : ℕ) → v < s.n → (t : List ℕ) × Walk s 0 t v
