-- Nothing to believe: laws of what specs/Flags.antt defines.
use Rattle.std.specs.Prelude.{◌≡◌, refl, ◌≢◌, Bool, true, false, ℕ, ◌≤◌}
use Rattle.std.proofs.Common.{arith, ne_eqb}
use Rattle.tests_spec.specs.Flags.{flag, flag_of}

-- a flag that is 0 is false
pub flag_clear : flag 0 ≡ false
unfolding flag
flag_clear = refl

-- a flag that is any other number than 0 is true
pub flag_set : (x : ℕ) → x ≢ 0 → flag x ≡ true
unfolding flag
flag_set x n = rw (ne_eqb x 0 n)

-- a flag reads as what it was set to
pub flag_of_lem : (b : Bool) → flag (flag_of b) ≡ b
unfolding flag flag_of
flag_of_lem true = refl
flag_of_lem false = refl

-- a flag is set with 1, and cleared with 0
pub flag_small : (b : Bool) → flag_of b ≤ 1
unfolding flag_of
flag_small true = omega arith
flag_small false = omega arith
