-- The generator xorshift32 (02, K9): which state of 32 bits follows another. What a shift and an exclusive or do to
-- each bit is said in StateLaws.
use Rattle.std.specs.Prelude.{ℕ, zero, suc, ◌*◌, ◌/◌, ◌%◌, ◌^◌}
use Rattle.std.specs.Int.Bits.{bit_xor}

-- how many states of 32 bits there are: 2 to the power 32
abbrev pub states : ℕ
states = 4294967296

-- x shifted left by k, its high bits dropped
unfoldable pub shifted_left : ℕ → ℕ → ℕ
shifted_left k x = x * 2 ^ k % states

-- x shifted right by k
unfoldable pub shifted_right : ℕ → ℕ → ℕ
shifted_right k x = x / 2 ^ k

-- x combined by exclusive or with itself shifted left by k
unfoldable pub mixed_left : ℕ → ℕ → ℕ
mixed_left k x = bit_xor x (shifted_left k x)

-- x combined by exclusive or with itself shifted right by k
unfoldable pub mixed_right : ℕ → ℕ → ℕ
mixed_right k x = bit_xor x (shifted_right k x)

-- the state that follows x: combined with itself shifted left 13, then right 17, then left 5
unfoldable pub next_state : ℕ → ℕ
next_state x = mixed_left 5 (mixed_right 17 (mixed_left 13 x))

-- the state after j steps from the seed
unfoldable pub state_after : ℕ → ℕ → ℕ
state_after seed zero = seed
state_after seed (suc j) = next_state (state_after seed j)
