-- The last byte of a line.
use Rattle.std.specs.Prelude.{◌≡◌, List, [], ◌∷◌, ℕ, suc, ◌-◌, eqb, length, get_or, drop}
use Rattle.std.specs.Str.{bytes_eq}
use Rattle.std.proofs.Common.{arith, refl}

-- whether a line ends with one carriage return is a test of its last byte
pub last_byte : (line : List ℕ) → bytes_eq (drop (length line - 1) line) (13 ∷ []) ≡ eqb (get_or line (length line - 1) 0) 13
last_byte [] = refl
last_byte (b ∷ []) = grind arith
last_byte (b ∷ c ∷ line) =
    let e : length (b ∷ c ∷ line) - 1 ≡ suc (length (c ∷ line) - 1) = omega arith in
    rw e (last_byte (c ∷ line))
