-- How an input of two sheets, back to back, is split (01, "The program `compare`"), and one of a sheet and a keypad's
-- table, which is all after the first sheet (02, K6).
use Rattle.std.specs.Prelude.{◌||◌, cond, List, ℕ, ◌+◌, ltb, length, take, drop}
use Rattle.sheet_spec.specs.Spelling.{length_field}

-- where the first sheet ends: if the input has under 4 bytes, or the first length field plus 4 exceeds it, all of it is
-- the first sheet
unfoldable pub first_end : List ℕ → ℕ
first_end input =
    cond (ltb (length input) 4 || ltb (length input) (length_field input + 4)) (length input) (length_field input + 4)

-- the bytes of the first sheet of an input
unfoldable pub first_sheet : List ℕ → List ℕ
first_sheet input = take (first_end input) input

-- the bytes of the second sheet of an input: all after the first
unfoldable pub second_sheet : List ℕ → List ℕ
second_sheet input = drop (first_end input) input
