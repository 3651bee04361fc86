-- Nothing to believe: sets of nodes as numbers; inner functions cite these definitions. Who is in a set is `has`, as
-- for events.
use Rattle.std.specs.Prelude.{◌≡◌, refl, ℕ, zero, suc, ◌+◌, ◌-◌, ◌*◌, ◌/◌, ◌%◌, ◌^◌, ◌<◌, min}
use Rattle.std.proofs.Common.{◌∙◌, arith}
use Rattle.std.specs.Int.Bits.{bit_and, bit_or, and_step, and_self}
use Rattle.std.specs.Int.Count.{under, count_trailing_zeros}
use Rattle.events.specs.Bit.{bit}
use Rattle.events.proofs.Bit.{bit·zero, bit·suc, bit_or_lem, bit_one, bit_other, bit_le, bit≤1}

-- a set with node v added
abbrev pub with_node : ℕ → ℕ → ℕ
with_node x v = bit_or x (2 ^ v)

-- after adding node v it is there, and every other node is as it was
pub with_same : (x v : ℕ) → bit (with_node x v) v ≡ 1
with_same x v = omega (arith, bit_or_lem v x (2 ^ v), bit_one v, bit≤1 x v)

pub with_other : (x u v : ℕ) → (u ≡ v → ⊥) → bit (with_node x u) v ≡ bit x v
with_other x u v n = omega (arith, bit_or_lem v x (2 ^ u), bit_other u v n)

-- the least node of a set of nodes below 32
unfoldable pub least_node : ℕ → ℕ
least_node x = count_trailing_zeros 32 x

-- the least digit of x: it is among the first k, it is 1, and x has it no more after "and" with x - 1
least_digit : (k x : ℕ) → 0 < x → x < 2 ^ k → (count_trailing_zeros k x < k) × (bit x (count_trailing_zeros k x) ≡ 1) × (bit_and x (x - 1) ≡ x - 2 ^ count_trailing_zeros k x)
unfolding count_trailing_zeros
least_digit zero x a l = absurd (omega arith)
least_digit (suc k) x a l = go (x % 2) refl (least_digit k (x / 2))
  where
    t : ℕ
    t = count_trailing_zeros k (x / 2)

    go : (r : ℕ) → x % 2 ≡ r → (0 < x / 2 → x / 2 < 2 ^ k → (t < k) × (bit (x / 2) t ≡ 1) × (bit_and (x / 2) (x / 2 - 1) ≡ x / 2 - 2 ^ t))
        → (under r t < suc k) × (bit x (under r t) ≡ 1) × (bit_and x (x - 1) ≡ x - 2 ^ under r t)
    go zero e ih =
        let h = ih (omega arith) (omega arith) in
        let half : (x - 1) / 2 ≡ x / 2 - 1 = omega arith in
        let w : bit_and x (x - 1) ≡ bit_and (x / 2) (x / 2 - 1) * 2 + min (x % 2) ((x - 1) % 2) = and_step x (x - 1) ∙ rw half in
        let off : bit_and x (x - 1) ≡ x - 2 ^ suc t = omega (arith, w, h.2, bit_le t (x / 2) h.1) in
        (omega (arith, h.0), bit·suc x t ∙ h.1, off)
    go (suc r) e ih =
        let half : (x - 1) / 2 ≡ x / 2 = omega arith in
        let w : bit_and x (x - 1) ≡ x / 2 * 2 + min (x % 2) ((x - 1) % 2) = and_step x (x - 1) ∙ rw (half, and_self (x / 2)) in
        let off : bit_and x (x - 1) ≡ x - 1 = omega (arith, w) in
        (omega arith, bit·zero x ∙ omega arith, off)

module _ (x : ℕ) (pos : 0 < x) (small : x < 2 ^ 32) where
  -- the least node is below 32, it is in the set, and "and" with the number before the set's takes it out
  pub least_lt : least_node x < 32
  unfolding least_node
  least_lt = (least_digit 32 x pos small).0

  pub least_in : bit x (least_node x) ≡ 1
  unfolding least_node
  least_in = (least_digit 32 x pos small).1

  pub least_off : bit_and x (x - 1) ≡ x - 2 ^ least_node x
  unfolding least_node
  least_off = (least_digit 32 x pos small).2
