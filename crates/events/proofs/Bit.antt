-- Nothing to believe: laws of what specs/Bit.antt defines.
use Rattle.std.specs.Prelude.{◌≡◌, refl, ◌≢◌, ◌⊎◌, ℕ, zero, suc, ◌+◌, ◌-◌, ◌*◌, ◌/◌, ◌%◌, ◌^◌, ◌≤◌, ◌<◌, min, max, Bool, true, false, cond}
use Rattle.std.proofs.Common.{sym, ap, ap₂, ◌∙◌, inl, inr, one-mul, mod-eq_of_lt, div-one, add-zero, eq-or-lt_of_le, arith, pow_pos}
use Rattle.std.proofs.Math.Nat.{pow-succ', div-div-eq-div-mul}
use Rattle.std.proofs.Math.Decide.{ℕ_discrete}
use Rattle.std.proofs.Math.Arith.{bin_ind}
use Rattle.std.specs.Int.Bits.{bit_and, and_step, bit_or, or_step}
use Rattle.std.proofs.lemmas.Nat.{and_le_r}
use Rattle.std.proofs.Math.Pow.{pow-lt}
use Rattle.base.proofs.Truth.{lt_or_ge}
use Rattle.events.specs.Bit.{Apart, Within, bit, set_of}

pub bit·zero : (X : ℕ) → bit X 0 ≡ X % 2
unfolding bit
bit·zero X = rw div-one

pub bit·suc : (X i : ℕ) → bit X (suc i) ≡ bit (X / 2) i
unfolding bit
bit·suc X i = rw (pow-succ' 2 i, ← div-div-eq-div-mul X 2 (2 ^ i))

pub bit≤1 : (X i : ℕ) → bit X i ≤ 1
unfolding bit
bit≤1 X i = omega arith

pub bit_and_lem : (i X Y : ℕ) → bit (bit_and X Y) i ≡ min (bit X i) (bit Y i)
bit_and_lem zero X Y = rw (bit·zero (bit_and X Y), bit·zero X, bit·zero Y) (omega (arith, and_step X Y))
bit_and_lem (suc i) X Y = bit·suc (bit_and X Y) i ∙ ap (λ (x : ℕ). bit x i) half ∙ bit_and_lem i (X / 2) (Y / 2) ∙ ap₂ min (sym (bit·suc X i)) (sym (bit·suc Y i))
  where
    half : bit_and X Y / 2 ≡ bit_and (X / 2) (Y / 2)
    half = omega (arith, and_step X Y)

pub bits_zero : (i : ℕ) → bit 0 i ≡ 0
bits_zero zero = bit·zero 0
bits_zero (suc i) = bit·suc 0 i ∙ bits_zero i

pub all_zero : (X : ℕ) → ((i : ℕ) → bit X i ≡ 0) → X ≡ 0
all_zero = bin_ind (λ (X : ℕ). ((i : ℕ) → bit X i ≡ 0) → X ≡ 0) (λ h. refl)
    (λ X ih h. let a : X / 2 ≡ 0 = ih (λ i. sym (bit·suc X i) ∙ h (suc i)) in let b : X % 2 ≡ 0 = sym (bit·zero X) ∙ h 0 in omega arith)

pub bits_ext : (X Y : ℕ) → ((i : ℕ) → bit X i ≡ bit Y i) → X ≡ Y
bits_ext = bin_ind (λ (X : ℕ). (Y : ℕ) → ((i : ℕ) → bit X i ≡ bit Y i) → X ≡ Y)
    (λ Y h. sym (all_zero Y (λ i. sym (h i) ∙ bits_zero i)))
    (λ X ih Y h. let a : X / 2 ≡ Y / 2 = ih (Y / 2) (λ i. sym (bit·suc X i) ∙ h (suc i) ∙ bit·suc Y i) in
    let b : X % 2 ≡ Y % 2 = sym (bit·zero X) ∙ h 0 ∙ bit·zero Y in omega arith)

-- an event of a set that is not empty
pub some_bit : (X : ℕ) → X ≢ 0 → (i : ℕ) × (bit X i ≡ 1)
some_bit = bin_ind (λ (X : ℕ). X ≢ 0 → (i : ℕ) × (bit X i ≡ 1)) (λ h. absurd (h refl)) step
  where
    step : (X : ℕ) → (X / 2 ≢ 0 → (i : ℕ) × (bit (X / 2) i ≡ 1)) → X ≢ 0 → (i : ℕ) × (bit X i ≡ 1)
    step X ih h = go (X % 2) refl
      where
        go : (r : ℕ) → X % 2 ≡ r → (i : ℕ) × (bit X i ≡ 1)
        go zero e = let w = ih (omega arith) in (suc w.0, bit·suc X w.0 ∙ w.1)
        go (suc r) e = (0, bit·zero X ∙ omega arith)

-- the set of event i alone
pub bit_one : (i : ℕ) → bit (2 ^ i) i ≡ 1
bit_one zero = bit·zero 1
bit_one (suc i) = bit·suc (2 ^ suc i) i ∙ ap (λ (x : ℕ). bit x i) half ∙ bit_one i
  where
    half : 2 ^ suc i / 2 ≡ 2 ^ i
    half = omega arith

pub bit_other : (i j : ℕ) → i ≢ j → bit (2 ^ i) j ≡ 0
bit_other zero zero h = absurd (h refl)
bit_other zero (suc j) h = bit·suc 1 j ∙ bits_zero j
bit_other (suc i) zero h = bit·zero (2 ^ suc i) ∙ omega arith
bit_other (suc i) (suc j) h = bit·suc (2 ^ suc i) j ∙ ap (λ (x : ℕ). bit x j) half ∙ bit_other i j (λ e. h (ap suc e))
  where
    half : 2 ^ suc i / 2 ≡ 2 ^ i
    half = omega arith

-- the events below k that are not in X
pub bit_rest : (k i X : ℕ) → X < 2 ^ k → i < k → bit (2 ^ k - 1 - X) i ≡ 1 - bit X i
bit_rest zero i X h l = absurd (omega arith)
bit_rest (suc k) zero X h l = rw (bit·zero (2 ^ suc k - 1 - X), bit·zero X) (omega (arith, pow_pos k))
bit_rest (suc k) (suc i) X h l =
    bit·suc (2 ^ suc k - 1 - X) i ∙ ap (λ (x : ℕ). bit x i) half ∙ bit_rest k i (X / 2) (omega arith) (omega arith) ∙ ap (λ (x : ℕ). 1 - x) (sym (bit·suc X i))
  where
    half : (2 ^ suc k - 1 - X) / 2 ≡ 2 ^ k - 1 - X / 2
    half = omega (arith, pow_pos k)

-- no event at or above k is in a set below 2 ^ k
pub bit_high : (k i X : ℕ) → X < 2 ^ k → k ≤ i → bit X i ≡ 0
bit_high zero i X h l = let e : X ≡ 0 = omega arith in rw e (bits_zero i)
bit_high (suc k) zero X h l = absurd (omega arith)
bit_high (suc k) (suc i) X h l = bit·suc X i ∙ bit_high k i (X / 2) (omega arith) (omega arith)

pub within_and : (X Y : ℕ) → Within X Y → bit_and X Y ≡ X
within_and X Y h = bits_ext (bit_and X Y) X (λ i. omega (arith, bit_and_lem i X Y, h i))

pub and_within : (X Y : ℕ) → bit_and X Y ≡ X → Within X Y
and_within X Y e i = omega (arith, bit_and_lem i X Y, ap (λ (x : ℕ). bit x i) e)

pub apart_and : (X Y : ℕ) → Apart X Y → bit_and X Y ≡ 0
apart_and X Y h = all_zero (bit_and X Y) (λ i. omega (arith, bit_and_lem i X Y, h i))

pub and_apart : (X Y : ℕ) → bit_and X Y ≡ 0 → Apart X Y
and_apart X Y e i = omega (arith, bit_and_lem i X Y, ap (λ (x : ℕ). bit x i) e, bits_zero i, bit≤1 X i, bit≤1 Y i)

pub within_le : (X Y : ℕ) → Within X Y → X ≤ Y
within_le X Y h = omega (arith, within_and X Y h, and_le_r X Y)

pub within_antisym : (X Y : ℕ) → Within X Y → Within Y X → X ≡ Y
within_antisym X Y h k = bits_ext X Y (λ i. omega (arith, h i, k i))

-- a common event, where the two meet
pub common : (X Y : ℕ) → bit_and X Y ≢ 0 → (i : ℕ) × (bit X i ≡ 1) × (bit Y i ≡ 1)
common X Y h = let w = some_bit (bit_and X Y) h in
    (w.0, omega (arith, w.1, bit_and_lem w.0 X Y, bit≤1 X w.0, bit≤1 Y w.0), omega (arith, w.1, bit_and_lem w.0 X Y, bit≤1 X w.0, bit≤1 Y w.0))

pub meet : (X Y i : ℕ) → bit X i ≡ 1 → bit Y i ≡ 1 → bit_and X Y ≢ 0
meet X Y i p q e = omega (arith, p, q, bit_and_lem i X Y, ap (λ (x : ℕ). bit x i) e, bits_zero i)

pub bit_le : (i X : ℕ) → bit X i ≡ 1 → 2 ^ i ≤ X
bit_le i X h = pick (lt_or_ge X (2 ^ i))
  where
    pick : (X < 2 ^ i) ⊎ (2 ^ i ≤ X) → 2 ^ i ≤ X
    pick (inl l) = absurd (omega (arith, bit_high i i X l (omega arith)))
    pick (inr l) = l

-- X without event i
pub bit_drop : (i X : ℕ) → bit X i ≡ 1 → bit (X - 2 ^ i) i ≡ 0
bit_drop zero X h = bit·zero (X - 1) ∙ omega (arith, bit·zero X)
bit_drop (suc i) X h = bit·suc (X - 2 ^ suc i) i ∙ ap (λ (x : ℕ). bit x i) half ∙ bit_drop i (X / 2) (sym (bit·suc X i) ∙ h)
  where
    half : (X - 2 ^ suc i) / 2 ≡ X / 2 - 2 ^ i
    half = omega arith

pub bit_keep : (i j X : ℕ) → bit X i ≡ 1 → i ≢ j → bit (X - 2 ^ i) j ≡ bit X j
bit_keep zero zero X h n = absurd (n refl)
bit_keep zero (suc j) X h n = bit·suc (X - 1) j ∙ ap (λ (x : ℕ). bit x j) half ∙ sym (bit·suc X j)
  where
    half : (X - 1) / 2 ≡ X / 2
    half = omega (arith, bit·zero X)
bit_keep (suc i) zero X h n = bit·zero (X - 2 ^ suc i) ∙ low ∙ sym (bit·zero X)
  where
    -- 2 ^ suc i ≤ X, or the difference would be cut
    low : (X - 2 ^ suc i) % 2 ≡ X % 2
    low = omega (arith, bit_le (suc i) X h)
bit_keep (suc i) (suc j) X h n =
    bit·suc (X - 2 ^ suc i) j ∙ ap (λ (x : ℕ). bit x j) half ∙ bit_keep i j (X / 2) (sym (bit·suc X i) ∙ h) (λ e. n (ap suc e)) ∙ sym (bit·suc X j)
  where
    half : (X - 2 ^ suc i) / 2 ≡ X / 2 - 2 ^ i
    half = omega arith

pub bit_or_lem : (i X Y : ℕ) → bit (bit_or X Y) i ≡ max (bit X i) (bit Y i)
bit_or_lem zero X Y = rw (bit·zero (bit_or X Y), bit·zero X, bit·zero Y) (omega (arith, or_step X Y))
bit_or_lem (suc i) X Y = bit·suc (bit_or X Y) i ∙ ap (λ (x : ℕ). bit x i) half ∙ bit_or_lem i (X / 2) (Y / 2) ∙ ap₂ max (sym (bit·suc X i)) (sym (bit·suc Y i))
  where
    half : bit_or X Y / 2 ≡ bit_or (X / 2) (Y / 2)
    half = omega (arith, or_step X Y)

-- a sum puts event i into X, if it is not there
pub bit_put : (i X : ℕ) → bit X i ≡ 0 → bit (X + 2 ^ i) i ≡ 1
bit_put zero X h = bit·zero (X + 1) ∙ omega (arith, bit·zero X)
bit_put (suc i) X h = bit·suc (X + 2 ^ suc i) i ∙ ap (λ (x : ℕ). bit x i) half ∙ bit_put i (X / 2) (sym (bit·suc X i) ∙ h)
  where
    half : (X + 2 ^ suc i) / 2 ≡ X / 2 + 2 ^ i
    half = omega arith

-- a sum that puts event i into X leaves every other event as it was
pub bit_put_other : (i j X : ℕ) → bit X i ≡ 0 → i ≢ j → bit (X + 2 ^ i) j ≡ bit X j
bit_put_other zero zero X h n = absurd (n refl)
bit_put_other zero (suc j) X h n = bit·suc (X + 1) j ∙ ap (λ (x : ℕ). bit x j) half ∙ sym (bit·suc X j)
  where
    half : (X + 1) / 2 ≡ X / 2
    half = omega (arith, bit·zero X)
bit_put_other (suc i) zero X h n = bit·zero (X + 2 ^ suc i) ∙ low ∙ sym (bit·zero X)
  where
    low : (X + 2 ^ suc i) % 2 ≡ X % 2
    low = omega arith
bit_put_other (suc i) (suc j) X h n =
    bit·suc (X + 2 ^ suc i) j ∙ ap (λ (x : ℕ). bit x j) half ∙ bit_put_other i j (X / 2) (sym (bit·suc X i) ∙ h) (λ e. n (ap suc e)) ∙ sym (bit·suc X j)
  where
    half : (X + 2 ^ suc i) / 2 ≡ X / 2 + 2 ^ i
    half = omega arith

-- a sum puts into X one more event, above the others
pub bit_top : (n X : ℕ) → X < 2 ^ n → bit (X + 2 ^ n) n ≡ 1
bit_top n X h = bit_put n X (bit_high n n X h (omega arith))

pub bit_below : (n i X : ℕ) → X < 2 ^ n → i ≢ n → bit (X + 2 ^ n) i ≡ bit X i
bit_below n i X h e = bit_put_other n i X (bit_high n n X h (omega arith)) (λ q. e (sym q))

pub set_of_lt : (f : ℕ → Bool) (n : ℕ) → set_of f n < 2 ^ n
unfolding set_of
set_of_lt f zero = omega arith
set_of_lt f (suc n) = go (f n) (set_of_lt f n)
  where
    go : (b : Bool) → set_of f n < 2 ^ n → set_of f n + cond b (2 ^ n) 0 < 2 ^ suc n
    go true h = omega arith
    go false h = omega arith

pub bit_set_of : (f : ℕ → Bool) (n i : ℕ) → i < n → bit (set_of f n) i ≡ cond (f i) 1 0
unfolding set_of
bit_set_of f zero i l = absurd (omega arith)
bit_set_of f (suc n) i l = go (f n) refl (eq-or-lt_of_le l) (bit_set_of f n i)
  where
    go : (b : Bool) → f n ≡ b → (suc i ≡ suc n) ⊎ (suc i < suc n) → (i < n → bit (set_of f n) i ≡ cond (f i) 1 0) → bit (set_of f n + cond b (2 ^ n) 0) i ≡ cond (f i) 1 0
    go true e (inl s) ih = let q : i ≡ n = omega arith in rw (q, e) (bit_top n (set_of f n) (set_of_lt f n))
    go true e (inr s) ih = bit_below n i (set_of f n) (set_of_lt f n) (omega arith) ∙ ih (omega arith)
    go false e (inl s) ih = let q : i ≡ n = omega arith in rw (q, e, add-zero) (bit_high n n (set_of f n) (set_of_lt f n) (omega arith))
    go false e (inr s) ih = rw add-zero (ih (omega arith))

-- the code's `1 << i` in w bits
pub one_shifted : (w i : ℕ) → i < w → 1 * 2 ^ i % 2 ^ w ≡ 2 ^ i
one_shifted w i h = let l : 2 ^ i < 2 ^ w = pow-lt {i = i} {j = w} h in rw one-mul (mod-eq_of_lt l)

-- a set whose events are all below k is below 2 ^ k
pub narrow : (k X : ℕ) → ((i : ℕ) → bit X i ≡ 1 → i < k) → X < 2 ^ k
narrow zero X h = go (ℕ_discrete X 0)
  where
    go : Dec (X ≡ 0) → X < 1
    go (yes e) = omega arith
    go (no n) = let w = some_bit X n in absurd (omega (arith, h w.0 w.1))
narrow (suc k) X h = omega (arith, narrow k (X / 2) (λ i b. omega (arith, h (suc i) (bit·suc X i ∙ b))))
