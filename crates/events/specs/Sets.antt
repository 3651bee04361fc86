-- The four operations on sets of events that the code has, and what each means, event by event.
use Rattle.std.specs.Prelude.{Bool, not, cond, ℕ, ◌^◌, eqb, ltb}
use Rattle.std.specs.Int.Bits.{bit_and, bit_or}
use Rattle.events.specs.Bit.{bit}

-- event i is in X
unfoldable pub has : ℕ → ℕ → Bool
has X i = eqb (bit X i) 1

-- every event of X is in Y
unfoldable pub inside : ℕ → ℕ → Bool
inside X Y = eqb (bit_and X Y) X

-- some event is in both X and Y
unfoldable pub meets : ℕ → ℕ → Bool
meets X Y = not (eqb (bit_and X Y) 0)

-- X and event i; a set of 16 bits has no place for an event from 16 on, and stays as it is
unfoldable pub insert : ℕ → ℕ → ℕ
insert X i = cond (ltb i 16) (bit_or X (2 ^ i)) X
