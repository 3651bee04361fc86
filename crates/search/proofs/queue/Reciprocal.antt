-- A quotient as a product: x / q is x (65,536 / q + 1) / 65,536, for x below 1,024 and q up to 32.
use mathlib.Core.Path.{◌≡◌}
use Prim.Native.Nat.{ℕ, ◌+◌, ◌-◌, ◌*◌, ◌/◌, ◌%◌, ◌≤◌, ◌<◌}
use native.Mathlib.Omega.{arith}
use native.Mathlib.Nat.{mul-le-mul, mul-le-mul_left, mul-le-mul_right, mul_comm, mul_assoc, mul-add, add-mul}
use native.Mathlib.Nat.{div-add-mod', mod-lt, le-div_iff_mul-le, div-eq_of_lt-le, div-le_self, div-mul-le_self}

module _ (x q : ℕ) (lx : x < 1024) (some : 1 ≤ q) (few : q ≤ 32) where
  -- the factor of the product
  abbrev m : ℕ
  m = 65536 / q + 1

  -- the quotient of x by q
  abbrev r : ℕ
  r = x / q

  -- x is r times q and a rest below q
  whole : r * q + x % q ≡ x
  whole = div-add-mod' x q

  -- the factor times q is 65,536 or up to q more
  factor : (65536 ≤ q * m) × (q * m ≤ 65536 + q)
  factor =
      let e = mul-add q (65536 / q) 1 in
      let c = mul_comm q (65536 / q) in
      (omega (arith, e, c, div-add-mod' 65536 q, mod-lt 65536 some), omega (arith, e, c, div-add-mod' 65536 q))

  -- the quotient of 65,536 by q is large
  large : 2048 ≤ 65536 / q
  large = (le-div_iff_mul-le {x = 2048} {y = 65536} some).1 (omega arith)

  -- the product is not below r times 65,536
  above : r * 65536 ≤ x * m
  above =
      let a : r * 65536 ≤ r * (q * m) = mul-le-mul_left r factor.0 in
      let b : r * q * m ≤ x * m = mul-le-mul_right m (omega (arith, whole)) in
      omega (arith, a, b, mul_assoc r q m)

  -- the product is below the next multiple of 65,536
  below : x * m < (r + 1) * 65536
  below =
      let a : (x + 1) * m ≤ (r + 1) * q * m = mul-le-mul_right m (omega (arith, whole, mod-lt x some, add-mul r 1 q)) in
      let b : (r + 1) * (q * m) ≤ (r + 1) * (65536 + q) = mul-le-mul_left (r + 1) factor.1 in
      omega (arith, a, b, mul_assoc (r + 1) q m, mul-add (r + 1) 65536 q, add-mul r 1 q, add-mul x 1 m, whole, large)

  -- no number on the way is large
  pub small : (65536 / q ≤ 65536) × (x * (65536 / q + 1) ≤ 67108864)
  small =
      let k : 65536 / q ≤ 65536 = div-le_self 65536 q in
      (k, omega (arith, mul-le-mul {n₁ = x} {m₁ = m} {n₂ = 1023} {m₂ = 65537} (omega arith) (omega arith)))

  pub quotient_is : x * (65536 / q + 1) / 65536 ≡ x / q
  quotient_is = div-eq_of_lt-le 65536 above below

-- q is taken out of x as often as it goes, and x % q is left
pub taken : (x q : ℕ) → x / q * q ≤ x
taken x q = div-mul-le_self x q

pub rest_is : (x q : ℕ) → x - x / q * q ≡ x % q
rest_is x q = omega (arith, div-add-mod' x q)
