-- Nothing to believe: laws of what specs/Sets.antt defines.
use Rattle.std.specs.Prelude.{◌≡◌, refl, ◌≢◌, ◌⊎◌, Bool, true, false, not, ◌&&◌, cond, ℕ, zero, suc, ◌+◌, ◌-◌, ◌*◌, ◌^◌, ◌≤◌, ◌<◌, eqb, ltb}
use Rattle.std.proofs.Common.{sym, ◌∙◌, inl, inr, arith, eqb-true, eq-eqb, ne_eqb, lt-ltb, le-ltb}
use Rattle.std.proofs.Math.Decide.{ℕ_discrete}
use Rattle.std.specs.Int.Bits.{bit_and, bit_or}
use Rattle.std.proofs.lemmas.Bool.{eqb-false, not-true}
use Rattle.base.proofs.Truth.{dec, clash, lt_or_ge, and_l, and_r, and_i, not_t, t_not}
use Rattle.base.specs.Range.{any}
use Rattle.base.proofs.Range.{any→, not_any}
use Rattle.events.specs.Bit.{bit, Within, Apart}
use Rattle.events.proofs.Bit.{bit≤1, bit_or_lem, bit_one, bit_other, bits_ext, bit_high, bit_put, bit_put_other, narrow, within_and, and_within, apart_and, and_apart, common, meet}
use Rattle.events.specs.Sets.{has, insert, inside, meets}

pub has→ : (X i : ℕ) → has X i ≡ true → bit X i ≡ 1
unfolding has
has→ X i t = eqb-true (bit X i) 1 t

pub has← : (X i : ℕ) → bit X i ≡ 1 → has X i ≡ true
unfolding has
has← X i e = eq-eqb (bit X i) 1 e

pub has_not : (X i : ℕ) → has X i ≡ false → bit X i ≡ 0
unfolding has
has_not X i t = let h = eqb-false (bit X i) 1 t in go (bit X i) (bit≤1 X i) h
  where
    go : (b : ℕ) → b ≤ 1 → b ≢ 1 → b ≡ 0
    go zero l h = refl
    go (suc b) l h = absurd (h (omega arith))

-- no event from 16 on is in a set of 16 bits
pub has_high : (X i : ℕ) → X < 65536 → 16 ≤ i → has X i ≡ false
unfolding has
has_high X i l h = ne_eqb (bit X i) 1 (λ e. omega (arith, bit_high 16 i X l h))

pub inside→ : (X Y : ℕ) → inside X Y ≡ true → Within X Y
unfolding inside
inside→ X Y t = and_within X Y (eqb-true (bit_and X Y) X t)

pub inside← : (X Y : ℕ) → Within X Y → inside X Y ≡ true
unfolding inside
inside← X Y h = eq-eqb (bit_and X Y) X (within_and X Y h)

-- where the test says that X is not inside Y, it is not included in Y
pub inside_not : (X Y : ℕ) → inside X Y ≡ false → Within X Y → ⊥
unfolding inside
inside_not X Y t h = eqb-false (bit_and X Y) X t (within_and X Y h)

lt_pow : (x : ℕ) → x < 2 ^ x
lt_pow zero = omega arith
lt_pow (suc x) = omega (arith, lt_pow x)

-- where X is not inside Y, an event of X that is not in Y can be found
pub inside_missing : (X Y : ℕ) → inside X Y ≡ false → (i : ℕ) × (bit X i ≡ 1) × (bit Y i ≡ 0)
inside_missing X Y t = pick (dec (any f X))
  where
    f : ℕ → Bool
    f i = has X i && not (has Y i)

    pick : (any f X ≡ true) ⊎ (any f X ≡ false) → (i : ℕ) × (bit X i ≡ 1) × (bit Y i ≡ 0)
    pick (inl a) = let w = any→ f X a in
        (w.0, has→ X w.0 (and_l (has X w.0) (not (has Y w.0)) w.2), has_not Y w.0 (not-true (has Y w.0) (and_r (has X w.0) (not (has Y w.0)) w.2)))
    pick (inr a) = absurd (inside_not X Y t within)
      where
        below : (i : ℕ) → i < X → bit X i ≤ bit Y i
        below i l = go (dec (has X i)) (dec (has Y i))
          where
            go : (has X i ≡ true) ⊎ (has X i ≡ false) → (has Y i ≡ true) ⊎ (has Y i ≡ false) → bit X i ≤ bit Y i
            go (inr p) q = omega (arith, has_not X i p)
            go (inl p) (inl q) = omega (arith, has→ X i p, has→ Y i q)
            go (inl p) (inr q) = absurd (clash (and_i p (not_t q)) (not_any f X i a l))

        within : Within X Y
        within i = go (lt_or_ge i X)
          where
            go : (i < X) ⊎ (X ≤ i) → bit X i ≤ bit Y i
            go (inl l) = below i l
            go (inr l) = omega (arith, bit_high X i X (lt_pow X) l)

pub meets→ : (X Y : ℕ) → meets X Y ≡ true → (i : ℕ) × (bit X i ≡ 1) × (bit Y i ≡ 1)
unfolding meets
meets→ X Y t = common X Y (eqb-false (bit_and X Y) 0 (not-true (eqb (bit_and X Y) 0) t))

pub meets← : (X Y i : ℕ) → bit X i ≡ 1 → bit Y i ≡ 1 → meets X Y ≡ true
unfolding meets
meets← X Y i p q = not_t (ne_eqb (bit_and X Y) 0 (meet X Y i p q))

pub meets_not : (X Y : ℕ) → meets X Y ≡ false → Apart X Y
unfolding meets
meets_not X Y t = and_apart X Y (pick (dec (eqb (bit_and X Y) 0)))
  where
    pick : (eqb (bit_and X Y) 0 ≡ true) ⊎ (eqb (bit_and X Y) 0 ≡ false) → bit_and X Y ≡ 0
    pick (inl s) = eqb-true (bit_and X Y) 0 s
    pick (inr s) = absurd (let z : true ≡ false = sym (not_t s) ∙ t in let y : ◌≡◌ {A = ℕ} 0 1 = cc in omega arith)

pub meets_apart : (X Y : ℕ) → Apart X Y → meets X Y ≡ false
unfolding meets
meets_apart X Y h = t_not (eq-eqb (bit_and X Y) 0 (apart_and X Y h))

-- after adding event i it is there, and every other event is as it was
pub insert_same : (X i : ℕ) → i < 16 → bit (insert X i) i ≡ 1
unfolding insert
insert_same X i l = rw (lt-ltb i 16 l) (omega (arith, bit_or_lem i X (2 ^ i), bit_one i, bit≤1 X i))

pub insert_other : (X i j : ℕ) → i ≢ j → bit (insert X i) j ≡ bit X j
unfolding insert
insert_other X i j n = go (ltb i 16)
  where
    go : (b : Bool) → bit (cond b (bit_or X (2 ^ i)) X) j ≡ bit X j
    go true = omega (arith, bit_or_lem j X (2 ^ i), bit_other i j n)
    go false = refl

-- a set that has event i, and every other event as X has it, is X with event i added
pub insert_only : (X i Y : ℕ) → i < 16 → bit Y i ≡ 1 → ((j : ℕ) → i ≢ j → bit Y j ≡ bit X j) → Y ≡ insert X i
insert_only X i Y l p h = bits_ext Y (insert X i) (λ j. go j (ℕ_discrete i j))
  where
    go : (j : ℕ) → Dec (i ≡ j) → bit Y j ≡ bit (insert X i) j
    go j (yes e) = rw (← e) (p ∙ sym (insert_same X i l))
    go j (no n) = h j n ∙ sym (insert_other X i j n)

-- adding an event that is there already changes nothing
pub insert_there : (X i : ℕ) → i < 16 → bit X i ≡ 1 → insert X i ≡ X
insert_there X i l p = sym (insert_only X i X l p (λ j n. refl))

-- an event that is not there is added by a sum
pub insert_new : (X i : ℕ) → i < 16 → bit X i ≡ 0 → insert X i ≡ X + 2 ^ i
insert_new X i l p = sym (insert_only X i (X + 2 ^ i) l (bit_put i X p) (λ j n. bit_put_other i j X p n))

-- one sum adds an event, there already or not: its bit, 2 ^ i, is added where its digit is 0, and nothing where it is 1
pub insert_sum : (X i : ℕ) → i < 16 → X + (1 - bit X i) * 2 ^ i ≡ insert X i
insert_sum X i l = go (ℕ_discrete (bit X i) 1)
  where
    go : Dec (bit X i ≡ 1) → X + (1 - bit X i) * 2 ^ i ≡ insert X i
    go (yes e) = rw e (omega (arith, insert_there X i l e))
    go (no n) = let z : bit X i ≡ 0 = omega (arith, n, bit≤1 X i) in rw z (omega (arith, insert_new X i l z))

-- a set of 16 bits stays one when an event is added
pub insert_small : (X i : ℕ) → X < 65536 → i < 16 → insert X i < 65536
insert_small X i h l = narrow 16 (insert X i) (λ j b. go j b (ℕ_discrete i j) (lt_or_ge j 16))
  where
    go : (j : ℕ) → bit (insert X i) j ≡ 1 → Dec (i ≡ j) → (j < 16) ⊎ (16 ≤ j) → j < 16
    go j b d (inl k) = k
    go j b (yes e) (inr k) = omega arith
    go j b (no n) (inr k) = absurd (omega (arith, b, insert_other X i j n, bit_high 16 j X h k))

-- an event above all others is added by a sum
pub insert_top : (X i : ℕ) → i < 16 → X < 2 ^ i → insert X i ≡ X + 2 ^ i
insert_top X i l h = insert_new X i l (bit_high i i X h (omega arith))

pub insert_far : (X i : ℕ) → 16 ≤ i → insert X i ≡ X
unfolding insert
insert_far X i h = rw (le-ltb i 16 h)
