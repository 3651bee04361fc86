-- Nothing to believe: the shape of a test. An inner function cites it, a law joins it to the refusals of the bytes.
use Rattle.std.specs.Prelude.{Bool, ◌&&◌, List, ℕ, ◌+◌, eqb, leb, length}
use Rattle.sheet_spec.specs.Spelling.{length_field}

-- 1: at least 7 bytes, and as many as the first four say
unfoldable pub length_ok : List ℕ → Bool
length_ok b = leb 7 (length b) && eqb (length_field b + 4) (length b)
