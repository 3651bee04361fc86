-- Nothing to believe: laws. What xorshift32 does to the bits of a state; that what follows the states of one bit
-- settles what follows each; that a state other than 0 is never followed by 0, which is why seed 0, which is followed
-- by itself alone, is refused.
use Rattle.std.specs.Prelude.{◌≡◌, refl, ◌⊎◌, ◌≢◌, ℕ, zero, suc, ◌+◌, ◌-◌, ◌*◌, ◌/◌, ◌%◌, ◌^◌, ◌≤◌, ◌<◌}
use Rattle.std.proofs.Common.{sym, ap, ◌∙◌, inl, inr, add-zero, zero-add, add-suc, suc-add, mul-one, div-one, div-le_self, lt_of_le_of_lt, pow_pos, pow_mono}
use Rattle.std.proofs.Math.Nat.{sub-zero, pow-succ', div-div-eq-div-mul, div-lt_self}
use native.Mathlib.Omega.{arith}
use Rattle.std.specs.Int.Bits.{bit_xor, xor_add_and, xor_lt, shifted_half, shifted_even}
use Rattle.std.proofs.lemmas.Nat.{xor_shr, and_mask}
use Rattle.base.proofs.Truth.{lt_or_ge}
use Rattle.events.specs.Bit.{bit}
use Rattle.events.proofs.Bit.{bit·zero, bit·suc, bit≤1, bit_and_lem, bit_rest, bit_high, bits_zero, all_zero, bits_ext}
use Rattle.load_spec.specs.Xorshift.{states, shifted_left, shifted_right, mixed_left, mixed_right, next_state, state_after}

-- ---- the bits

-- a bit of an exclusive or is 1 exactly if just one of the two bits is
pub bit_xor_lem : (i X Y : ℕ) → bit (bit_xor X Y) i ≡ (bit X i + bit Y i) % 2
bit_xor_lem zero X Y = rw (bit·zero (bit_xor X Y), bit·zero X, bit·zero Y) (omega (arith, xor_add_and X Y))
bit_xor_lem (suc i) X Y =
    rw (bit·suc (bit_xor X Y) i, bit·suc X i, bit·suc Y i) (ap (λ (x : ℕ). bit x i) half ∙ bit_xor_lem i (X / 2) (Y / 2))
  where
    half : bit_xor X Y / 2 ≡ bit_xor (X / 2) (Y / 2)
    half = xor_shr X Y 1

-- the low bits stay when the high ones are dropped
bit_low : (n i X : ℕ) → i < n → bit (X % 2 ^ n) i ≡ bit X i
bit_low n i X l =
    let e : bit (2 ^ n - 1) i ≡ 1 - bit 0 i = ap (λ (x : ℕ). bit x i) (sym (sub-zero (2 ^ n - 1))) ∙ bit_rest n i 0 (pow_pos n) l in
    rw (← and_mask X n) (omega (arith, bit_and_lem i X (2 ^ n - 1), e, bits_zero i, bit≤1 X i))

bit_up : (k i x : ℕ) → bit (x * 2 ^ k) (i + k) ≡ bit x i
bit_up zero i x = rw (add-zero i, mul-one x)
bit_up (suc k) i x = rw (add-suc i k) (bit·suc (x * 2 ^ suc k) (i + k) ∙ ap (λ (y : ℕ). bit y (i + k)) (shifted_half x k) ∙ bit_up k i x)

bit_under : (k i x : ℕ) → i < k → bit (x * 2 ^ k) i ≡ 0
bit_under zero i x l = absurd (omega arith)
bit_under (suc k) zero x l = bit·zero (x * 2 ^ suc k) ∙ shifted_even x k
bit_under (suc k) (suc i) x l = bit·suc (x * 2 ^ suc k) i ∙ ap (λ (y : ℕ). bit y i) (shifted_half x k) ∙ bit_under k i x (omega arith)

bit_down : (k i x : ℕ) → bit (x / 2 ^ k) i ≡ bit x (k + i)
bit_down zero i x = rw (div-one x, zero-add i)
bit_down (suc k) i x = rw (pow-succ' 2 k, ← div-div-eq-div-mul x 2 (2 ^ k), suc-add k i) (bit_down k i (x / 2) ∙ sym (bit·suc x (k + i)))

module _ (k x : ℕ) where
  -- shifted left by k, the bits move up by k, below them are zeros, and there are no bits from 32 on
  pub left_moved : (i : ℕ) → i + k < 32 → bit (shifted_left k x) (i + k) ≡ bit x i
  unfolding shifted_left
  left_moved i l = bit_low 32 (i + k) (x * 2 ^ k) l ∙ bit_up k i x

  pub left_zeros : (i : ℕ) → i < k → i < 32 → bit (shifted_left k x) i ≡ 0
  unfolding shifted_left
  left_zeros i l h = bit_low 32 i (x * 2 ^ k) h ∙ bit_under k i x l

  left_small : shifted_left k x < states
  unfolding shifted_left
  left_small = omega arith

  pub left_dropped : (i : ℕ) → 32 ≤ i → bit (shifted_left k x) i ≡ 0
  left_dropped i h = bit_high 32 i (shifted_left k x) left_small h

  -- shifted right by k, the bits move down by k
  pub right_moved : (i : ℕ) → bit (shifted_right k x) i ≡ bit x (k + i)
  unfolding shifted_right
  right_moved i = bit_down k i x

  -- so, combined with itself shifted left by k: the lowest k bits stay, and each other is joined by the one k below it
  pub mixed_low : (i : ℕ) → i < k → i < 32 → bit (mixed_left k x) i ≡ bit x i
  unfolding mixed_left
  mixed_low i l h = bit_xor_lem i x (shifted_left k x) ∙ omega (arith, left_zeros i l h, bit≤1 x i)

  pub mixed_up : (i : ℕ) → i + k < 32 → bit (mixed_left k x) (i + k) ≡ (bit x (i + k) + bit x i) % 2
  unfolding mixed_left
  mixed_up i l = bit_xor_lem (i + k) x (shifted_left k x) ∙ rw (left_moved i l)

  -- and combined with itself shifted right by k: each bit is joined by the one k above it
  pub mixed_down : (i : ℕ) → bit (mixed_right k x) i ≡ (bit x i + bit x (k + i)) % 2
  unfolding mixed_right
  mixed_down i = bit_xor_lem i x (shifted_right k x) ∙ rw (right_moved i)

  -- a state stays one
  mixed_left_small : x < states → mixed_left k x < states
  unfolding mixed_left
  mixed_left_small l = xor_lt 32 x (shifted_left k x) l left_small

  mixed_right_small : x < states → mixed_right k x < states
  unfolding mixed_right shifted_right
  mixed_right_small l = xor_lt 32 x (x / 2 ^ k) l (lt_of_le_of_lt (div-le_self x (2 ^ k)) l)

-- a state is followed by a state
pub next_small : (x : ℕ) → x < states → next_state x < states
unfolding next_state
next_small x l = mixed_left_small _ _ (mixed_right_small _ _ (mixed_left_small _ x l))

-- ---- what follows an exclusive or

left_bit : (k x y i : ℕ) → bit (shifted_left k (bit_xor x y)) i ≡ (bit (shifted_left k x) i + bit (shifted_left k y) i) % 2
left_bit k x y i = go (lt_or_ge i 32) (lt_or_ge i k)
  where
    go : (i < 32) ⊎ (32 ≤ i) → (i < k) ⊎ (k ≤ i) → bit (shifted_left k (bit_xor x y)) i ≡ (bit (shifted_left k x) i + bit (shifted_left k y) i) % 2
    go (inr h) c = rw (left_dropped k (bit_xor x y) i h, left_dropped k x i h, left_dropped k y i h)
    go (inl h) (inl c) = rw (left_zeros k (bit_xor x y) i c h, left_zeros k x i c h, left_zeros k y i c h)
    go (inl h) (inr c) =
        let q : i ≡ (i - k) + k = omega arith in
        let a = left_moved k (bit_xor x y) (i - k) (omega arith) in
        let b = left_moved k x (i - k) (omega arith) in
        let d = left_moved k y (i - k) (omega arith) in
        rw q (a ∙ bit_xor_lem (i - k) x y ∙ rw (b, d))

-- four bits are combined in any order
shuffled : (a b c d : ℕ) → ((a + b) % 2 + (c + d) % 2) % 2 ≡ ((a + c) % 2 + (b + d) % 2) % 2
shuffled a b c d = sum_mod (a + b) (c + d) ∙ ap (λ (n : ℕ). n % 2) moved ∙ sym (sum_mod (a + c) (b + d))
  where
    moved : (a + b) + (c + d) ≡ (a + c) + (b + d)
    moved = omega arith

    sum_mod : (p q : ℕ) → (p % 2 + q % 2) % 2 ≡ (p + q) % 2
    sum_mod p q = omega arith

left_xor : (k x y : ℕ) → mixed_left k (bit_xor x y) ≡ bit_xor (mixed_left k x) (mixed_left k y)
unfolding mixed_left
left_xor k x y =
    bits_ext _ _
    (λ i.
    rw (
      bit_xor_lem i (bit_xor x y) (shifted_left k (bit_xor x y)),
      bit_xor_lem i x y,
      left_bit k x y i,
      bit_xor_lem i (bit_xor x (shifted_left k x)) (bit_xor y (shifted_left k y)),
      bit_xor_lem i x (shifted_left k x),
      bit_xor_lem i y (shifted_left k y),
    )
    (shuffled (bit x i) (bit y i) (bit (shifted_left k x) i) (bit (shifted_left k y) i)))

right_xor : (k x y : ℕ) → mixed_right k (bit_xor x y) ≡ bit_xor (mixed_right k x) (mixed_right k y)
right_xor k x y =
    bits_ext _ _
    (λ i.
    rw (
      mixed_down k (bit_xor x y) i,
      bit_xor_lem i x y,
      bit_xor_lem (k + i) x y,
      bit_xor_lem i (mixed_right k x) (mixed_right k y),
      mixed_down k x i,
      mixed_down k y i,
    )
    (shuffled (bit x i) (bit y i) (bit x (k + i)) (bit y (k + i))))

-- an exclusive or of two numbers is followed by the exclusive or of what follows each; so what follows the 32 states of
-- one bit (`one_bit_states`) settles what follows every state
pub next_xor : (x y : ℕ) → next_state (bit_xor x y) ≡ bit_xor (next_state x) (next_state y)
unfolding next_state
next_xor x y = ap (mixed_left _) (ap (mixed_right _) (left_xor _ x y) ∙ right_xor _ _ _) ∙ left_xor _ _ _

-- ---- 0

-- an exclusive or is 0 of equal numbers only
xor_equal : (X Y : ℕ) → bit_xor X Y ≡ 0 → X ≡ Y
xor_equal X Y e =
    bits_ext X Y (λ i. omega (arith, bit_xor_lem i X Y, ap (λ (x : ℕ). bit x i) e, bits_zero i, bit≤1 X i, bit≤1 Y i))

-- a number that is combined to 0 with itself shifted left has no bit, from the lowest on
no_bits : (k x : ℕ) → 0 < k → mixed_left k x ≡ 0 → (n i : ℕ) → i < n → i < 32 → bit x i ≡ 0
no_bits k x p e zero i l h = absurd (omega arith)
no_bits k x p e (suc n) i l h = go (lt_or_ge i k) (no_bits k x p e n)
  where
    go : (i < k) ⊎ (k ≤ i) → ((j : ℕ) → j < n → j < 32 → bit x j ≡ 0) → bit x i ≡ 0
    go (inl c) ih = sym (mixed_low k x i c h) ∙ ap (λ (y : ℕ). bit y i) e ∙ bits_zero i
    go (inr c) ih =
        let q : i ≡ (i - k) + k = omega arith in
        let m = mixed_up k x (i - k) (omega arith) in
        let z : bit (mixed_left k x) ((i - k) + k) ≡ 0 = ap (λ (y : ℕ). bit y ((i - k) + k)) e ∙ bits_zero ((i - k) + k) in
        ap (bit x) q ∙ omega (arith, m, z, ih (i - k) (omega arith) (omega arith), bit≤1 x ((i - k) + k))

-- so neither shift makes 0 of another state
mixed_left_some : (k x : ℕ) → 0 < k → x < states → mixed_left k x ≡ 0 → x ≡ 0
mixed_left_some k x p l e = all_zero x (λ i. go i (lt_or_ge i 32))
  where
    go : (i : ℕ) → (i < 32) ⊎ (32 ≤ i) → bit x i ≡ 0
    go i (inl h) = no_bits k x p e (suc i) i (omega arith) h
    go i (inr h) = bit_high 32 i x l h

mixed_right_some : (k x : ℕ) → 0 < k → mixed_right k x ≡ 0 → x ≡ 0
unfolding mixed_right shifted_right
mixed_right_some k x p e = go x refl
  where
    go : (y : ℕ) → x ≡ y → x ≡ 0
    go zero q = q
    go (suc y) q =
        let s : x ≡ x / 2 ^ k = xor_equal x (x / 2 ^ k) e in
        let w : 2 ^ 1 ≤ 2 ^ k = pow_mono p in
        let d : x / 2 ^ k < x = div-lt_self (omega (arith, q)) w in
        absurd (omega (arith, s, d))

-- a state other than 0 is never followed by 0
pub next_some : (x : ℕ) → x < states → x ≢ 0 → next_state x ≢ 0
unfolding next_state
next_some x l n e =
    n (mixed_left_some _ x (omega arith) l (mixed_right_some _ _ (omega arith)
    (mixed_left_some _ _ (omega arith) (mixed_right_small _ _ (mixed_left_small _ x l)) e)))

-- 0 is followed by 0, so that a walk of seed 0 would take the lowest initial for ever
pub next_zero : next_state 0 ≡ 0
unfolding next_state mixed_left mixed_right shifted_left shifted_right
next_zero = refl

-- ---- all states of a seed

-- after no step it is the seed itself
pub after_none : (seed : ℕ) → state_after seed 0 ≡ seed
unfolding state_after
after_none seed = refl

-- the states after a seed other than 0 are states, and none of them is 0
pub after_small : (seed j : ℕ) → seed < states → state_after seed j < states
unfolding state_after
after_small seed zero l = l
after_small seed (suc j) l = next_small (state_after seed j) (after_small seed j l)

pub after_some : (seed j : ℕ) → seed < states → seed ≢ 0 → state_after seed j ≢ 0
unfolding state_after
after_some seed zero l n = n
after_some seed (suc j) l n = next_some (state_after seed j) (after_small seed j l) (after_some seed j l n)

-- the states after the state that follows a seed are the later ones of the seed
pub after_next : (seed j : ℕ) → state_after (next_state seed) j ≡ state_after seed (suc j)
unfolding state_after
after_next seed zero = refl
after_next seed (suc j) = ap next_state (after_next seed j)
