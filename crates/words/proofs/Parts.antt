-- Digits that are few enough are at most ten.
use Rattle.std.specs.Prelude.{◌≡◌, true, List, ℕ, ◌≤◌}
use Rattle.std.proofs.Common.{arith}
use Rattle.words_spec.specs.Numbers.{few_digits, Digits}
use Rattle.words_spec.proofs.NumberLaws.{digits→}

pub few_ten : (most : ℕ) (w : List ℕ) → most ≤ 10 → few_digits most w ≡ true → Digits 10 w
few_ten most w l t = let s = digits→ most w t in record { some = s.some; few = omega (arith, s.few); each = s.each }
