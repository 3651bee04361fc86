-- The bytes of a sheet in version 1 (01, "A sheet") and in version 2 (02, K1), as a recursion over the kept sheet, and
-- which of the two is written. It knows nothing of reading: that reading undoes it, and nothing else, is the law of
-- EncodingLaws.
use Rattle.std.specs.Prelude.{◌≡◌, ◌⊎◌, cond, List, [], ◌∷◌, ◌++◌, ℕ, ◌+◌, ◌/◌, ◌%◌, ◌<◌, eqb, length, take}
use Rattle.sheet_spec.specs.declared.Row.{Row}
use Rattle.sheet_spec.specs.declared.Sheet.{Sheet}
use Rattle.sheet_spec.specs.Kept.{code}
use Rattle.sheet_spec.specs.Rules.{first_codes_ok}

-- a number in two bytes, big-endian
unfoldable pub two : ℕ → List ℕ
two x = x / 256 ∷ (x % 256 ∷ [])

-- a number in four bytes, big-endian
unfoldable pub four : ℕ → List ℕ
four x = two (x / 65536) ++ two (x % 65536)

-- the bytes of numbers, two for each
unfoldable pub encode_words : List ℕ → List ℕ
encode_words [] = []
encode_words (x ∷ xs) = two x ++ encode_words xs

-- the bytes of a node: its e successors, its C, its C sets
unfoldable pub encode_row : ℕ → Row → List ℕ
encode_row e r = take e r.succ ++ (r.c ∷ encode_words (take r.c r.sets))

-- the bytes of nodes, in order
unfoldable pub encode_rows : ℕ → List Row → List ℕ
encode_rows e [] = []
encode_rows e (r ∷ rs) = encode_row e r ++ encode_rows e rs

-- the bytes of the codes: version 2 has the E codes, version 1 none
unfoldable pub encode_codes : ℕ → Sheet → List ℕ
encode_codes version s = cond (eqb version 2) (encode_words (take s.e s.codes)) []

-- what follows the length: the version, E, N, the codes, the N nodes
unfoldable pub encode_body : ℕ → Sheet → List ℕ
encode_body version s = version ∷ (s.e ∷ (s.n ∷ (encode_codes version s ++ encode_rows s.e (take s.n s.rows))))

-- the bytes of a sheet in a version: how many bytes follow, and these
unfoldable pub encode : ℕ → Sheet → List ℕ
encode version s = four (length (encode_body version s)) ++ encode_body version s

-- the version in which a sheet is written: 1 where its codes are 1 to E, else 2
unfoldable pub written_version : Sheet → ℕ
written_version s = cond (first_codes_ok s.e s.codes) 1 2

-- the bytes that are written of a sheet
abbrev pub sheet_bytes : Sheet → List ℕ
sheet_bytes s = encode (written_version s) s

-- the codes of a sheet are 1 to E: event i has i + 1
abbrev pub HasFirstCodes : Sheet → Type 0
HasFirstCodes s = (i : ℕ) → i < s.e → code s i ≡ i + 1

-- a sheet can be written in this version: any in version 2, one whose codes are 1 to E in version 1
abbrev pub Writable : ℕ → Sheet → Type 0
Writable version s = (version ≡ 2) ⊎ ((version ≡ 1) × HasFirstCodes s)

-- these are the bytes of a sheet: in version 2, or in version 1 if its codes are 1 to E
abbrev pub BytesOf : List ℕ → Sheet → Type 0
BytesOf b s = (version : ℕ) × Writable version s × (b ≡ encode version s)
