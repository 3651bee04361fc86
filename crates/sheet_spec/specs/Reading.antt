-- What reading a sheet from its bytes answers: the sheet that they spell (Spelling), or a refusal 1 to 8 or 18
-- (Refusals) and 0 in every other place.
use Rattle.std.specs.Prelude.{◌≡◌, cond, List, ℕ, ◌<◌, eqb, length, get_or, replicate, Result, Ok, Err}
use Rattle.refusals.specs.declared.Refusal.{Refusal}
use Rattle.refusals.specs.Numbers.{number}
use Rattle.sheet_spec.specs.declared.Row.{Row}
use Rattle.sheet_spec.specs.declared.Sheet.{Sheet}
use Rattle.sheet_spec.specs.declared.ReadSheet.{ReadSheet}
use Rattle.sheet_spec.specs.Spelling.{sheet_of}
use Rattle.sheet_spec.specs.Refusals.{bytes_fault}
use Rattle.sheet_spec.specs.Kept.{row}

-- a sheet with 0 in every place
abbrev pub zero_sheet : Sheet
zero_sheet = record { rows = replicate 32 (record { succ = replicate 12 0; sets = replicate 16 0; c = 0 }); e = 0; n = 0; codes = replicate 12 0 }

-- the answer of a reading: a refusal is its number and 0 everywhere else
unfoldable pub answer : ℕ → Sheet → ReadSheet
answer k s = record { refusal = k; sheet = cond (eqb k 0) s zero_sheet }

-- what reading answers
unfoldable pub read_sheet : List ℕ → ReadSheet
read_sheet b = answer (bytes_fault b) (sheet_of b)

-- the answer that accepts: no refusal, and the sheet
abbrev pub accepted : Sheet → ReadSheet
accepted s = record { refusal = 0; sheet = s }

-- the answer of a reading as C has it: the sheet, or the number of the refusal and a sheet of zeros
abbrev pub kept : Result Sheet Refusal → ReadSheet
kept (Ok s) = accepted s
kept (Err cause) = record { refusal = number cause; sheet = zero_sheet }

-- 0 in every place of a row
pub record ZeroRow (r : Row) : Type 0 where
  pub succs : length r.succ ≡ 12
  pub succ_zero : (i : ℕ) → i < 12 → get_or r.succ i 255 ≡ 0
  pub sets : length r.sets ≡ 16
  pub set_zero : (j : ℕ) → j < 16 → get_or r.sets j 255 ≡ 0
  pub c_zero : r.c ≡ 0

-- 0 in every place of a sheet
pub record Zero (s : Sheet) : Type 0 where
  pub rows : length s.rows ≡ 32
  pub each : (v : ℕ) → v < 32 → ZeroRow (row s v)
  pub e_zero : s.e ≡ 0
  pub n_zero : s.n ≡ 0
  pub codes : length s.codes ≡ 12
  pub code_zero : (i : ℕ) → i < 12 → get_or s.codes i 255 ≡ 0
