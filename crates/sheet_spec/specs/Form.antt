-- Nothing to believe: words for laws alone. The machine's form of a sheet and of a list of bytes: what the types of the
-- code say, in numbers.
use Rattle.std.specs.Prelude.{◌≡◌, List, ℕ, ◌<◌, length, get_or}
use Rattle.sheet_spec.specs.declared.Row.{Row}
use Rattle.sheet_spec.specs.declared.Sheet.{Sheet}
use Rattle.sheet_spec.specs.Kept.{row, code}

-- every place holds a byte
abbrev pub Bytes : List ℕ → Type 0
Bytes b = (i : ℕ) → get_or b i 0 < 256

-- the form of a row: twelve bytes, sixteen words of 16 bits, and a byte
pub record RowForm (r : Row) : Type 0 where
  pub succs : length r.succ ≡ 12
  pub succ_byte_lem : Bytes r.succ
  pub sets : length r.sets ≡ 16
  pub set_word : (j : ℕ) → get_or r.sets j 0 < 65536
  pub c_byte : r.c < 256

-- the form of a sheet: 32 rows, two bytes, and twelve words of 16 bits
pub record SheetForm (s : Sheet) : Type 0 where
  pub rows : length s.rows ≡ 32
  pub each : (v : ℕ) → v < 32 → RowForm (row s v)
  pub e_byte : s.e < 256
  pub n_byte : s.n < 256
  pub codes : length s.codes ≡ 12
  pub code_word : (i : ℕ) → code s i < 65536
