-- A flag of a record is a byte, and every value of it has a reading: 0 is false, any other number is true.
use Rattle.std.specs.Prelude.{Bool, not, cond, ℕ, eqb}

-- a flag: 0 is false, any other number is true
unfoldable pub flag : ℕ → Bool
flag x = not (eqb x 0)

-- the number with which a flag is set or cleared: 1 or 0
unfoldable pub flag_of : Bool → ℕ
flag_of b = cond b 1 0
