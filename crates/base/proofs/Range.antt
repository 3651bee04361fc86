-- Nothing to believe: laws of what specs/Range.antt defines.
use Rattle.std.specs.Prelude.{◌≡◌, ◌⊎◌, Bool, true, false, ◌||◌, cond}
use Rattle.std.proofs.Math.Path.{refl}
use Rattle.std.proofs.Common.{inl, inr, true≢false, eq-or-lt_of_le, arith, add-one}
use Rattle.std.proofs.lemmas.Bool.{false≢true}
use Prim.Native.Nat.{ℕ, zero, suc, ◌+◌, ◌≤◌, ◌<◌}
use Rattle.base.proofs.Truth.{dec, clash, lt_or_ge, and_l, and_r, and_i, or_e, or_l, or_r, not_i}
use Rattle.base.specs.Range.{Least, all, any, first}

pub any→ : (f : ℕ → Bool) (n : ℕ) → any f n ≡ true → (i : ℕ) × (i < n) × (f i ≡ true)
unfolding any
any→ f zero t = absurd (false≢true t)
any→ f (suc n) t = go (or_e (any f n) (f n) t) (λ (s : any f n ≡ true). any→ f n s)
  where
    go : (any f n ≡ true) ⊎ (f n ≡ true) → (any f n ≡ true → (i : ℕ) × (i < n) × (f i ≡ true)) → (i : ℕ) × (i < suc n) × (f i ≡ true)
    go (inl s) ih = let w = ih s in (w.0, omega (arith, w.1), w.2)
    go (inr s) ih = (n, omega arith, s)

pub any← : (f : ℕ → Bool) (n i : ℕ) → i < n → f i ≡ true → any f n ≡ true
unfolding any
any← f zero i h t = absurd (omega arith)
any← f (suc n) i h t = go (eq-or-lt_of_le h) (λ (l : i < n). any← f n i l t)
  where
    go : (suc i ≡ suc n) ⊎ (suc i < suc n) → (i < n → any f n ≡ true) → (any f n || f n) ≡ true
    go (inl e) ih = let e' : i ≡ n = omega arith in or_r (any f n) (rw e' at t)
    go (inr l) ih = or_l (f n) (ih (omega arith))

pub all→ : (f : ℕ → Bool) (n i : ℕ) → all f n ≡ true → i < n → f i ≡ true
unfolding all
all→ f zero i t h = absurd (omega arith)
all→ f (suc n) i t h = go (eq-or-lt_of_le h) (λ (l : i < n). all→ f n i (and_l (all f n) (f n) t) l)
  where
    go : (suc i ≡ suc n) ⊎ (suc i < suc n) → (i < n → f i ≡ true) → f i ≡ true
    go (inl e) ih = let e' : i ≡ n = omega arith in rw e' (and_r (all f n) (f n) t)
    go (inr l) ih = ih (omega arith)

pub all← : (f : ℕ → Bool) (n : ℕ) → ((i : ℕ) → i < n → f i ≡ true) → all f n ≡ true
unfolding all
all← f zero h = refl
all← f (suc n) h = and_i (all← f n (λ i l. h i (omega arith))) (h n (omega arith))

-- tests that agree below the bound pass alike for some and for all of the numbers
module _ (f g : ℕ → Bool) where
  pub any_ext : (n : ℕ) → ((i : ℕ) → i < n → f i ≡ g i) → any f n ≡ any g n
  unfolding any
  any_ext zero h = refl
  any_ext (suc n) h = rw (any_ext n (λ i l. h i (omega arith)), h n (omega arith))

  pub all_ext : (n : ℕ) → ((i : ℕ) → i < n → f i ≡ g i) → all f n ≡ all g n
  unfolding all
  all_ext zero h = refl
  all_ext (suc n) h = rw (all_ext n (λ i l. h i (omega arith)), h n (omega arith))

-- a test that fails somewhere names a place
pub not_all : (f : ℕ → Bool) (n : ℕ) → all f n ≡ false → (i : ℕ) × (i < n) × (f i ≡ false)
unfolding all
not_all f zero h = absurd (true≢false h)
not_all f (suc n) h = go (dec (all f n)) (λ (s : all f n ≡ false). not_all f n s)
  where
    go : (all f n ≡ true) ⊎ (all f n ≡ false) → (all f n ≡ false → (i : ℕ) × (i < n) × (f i ≡ false)) → (i : ℕ) × (i < suc n) × (f i ≡ false)
    go (inl s) ih = (n, omega arith, not_i (λ t. clash (and_i s t) h))
    go (inr s) ih = let w = ih s in (w.0, omega (arith, w.1), w.2)

pub not_any : (f : ℕ → Bool) (n i : ℕ) → any f n ≡ false → i < n → f i ≡ false
not_any f n i h l = not_i (λ t. clash (any← f n i l t) h)

pub least : (f : ℕ → Bool) (n : ℕ) → f n ≡ true → (m : ℕ) × (m ≤ n) × Least f m
least f zero t = (0, omega arith, (t, λ k l. absurd (omega arith)))
least f (suc n) t = go (dec (f 0)) (least (λ i. f (suc i)) n t)
  where
    go : (f 0 ≡ true) ⊎ (f 0 ≡ false) → (m : ℕ) × (m ≤ n) × Least (λ i. f (suc i)) m → (m : ℕ) × (m ≤ suc n) × Least f m
    go (inl s) w = (0, omega arith, (s, λ k l. absurd (omega arith)))
    go (inr s) w = (suc w.0, omega (arith, w.1), (w.2.0, below w.0 w.2.1))
      where
        below : (m : ℕ) → ((k : ℕ) → k < m → f (suc k) ≡ false) → (k : ℕ) → k < suc m → f k ≡ false
        below m h zero l = s
        below m h (suc k) l = h k (omega arith)

pub first≤ : (f : ℕ → Bool) (n : ℕ) → first f n ≤ n
unfolding first
first≤ f zero = omega arith
first≤ f (suc n) = go (f 0) (first≤ (λ i. f (suc i)) n)
  where
    go : (b : Bool) → first (λ i. f (suc i)) n ≤ n → cond b 0 (suc (first (λ i. f (suc i)) n)) ≤ suc n
    go true h = omega arith
    go false h = omega arith

-- below the first number that passes, the test fails
pub first_before : (f : ℕ → Bool) (n k : ℕ) → k < first f n → f k ≡ false
unfolding first
first_before f zero k l = absurd (omega arith)
first_before f (suc n) k l = go k (f 0) refl l (first_before (λ i. f (suc i)) n)
  where
    go : (k : ℕ) (b : Bool) → f 0 ≡ b → k < cond b 0 (suc (first (λ i. f (suc i)) n)) → ((k : ℕ) → k < first (λ i. f (suc i)) n → f (suc k) ≡ false) → f k ≡ false
    go k true e l ih = absurd (omega arith)
    go zero false e l ih = e
    go (suc k) false e l ih = ih k (omega arith)

-- at the first number that passes, if it is below the bound, the test passes
pub first_at : (f : ℕ → Bool) (n : ℕ) → first f n < n → f (first f n) ≡ true
unfolding first
first_at f zero l = absurd (omega arith)
first_at f (suc n) l = go (f 0) refl l (first_at (λ i. f (suc i)) n)
  where
    go : (b : Bool) → f 0 ≡ b → cond b 0 (suc (first (λ i. f (suc i)) n)) < suc n → (first (λ i. f (suc i)) n < n → f (suc (first (λ i. f (suc i)) n)) ≡ true) → f (cond b 0 (suc (first (λ i. f (suc i)) n))) ≡ true
    go true e l ih = e
    go false e l ih = ih (omega arith)

-- a number that passes is not before the first that does
pub first_le : (f : ℕ → Bool) (n k : ℕ) → f k ≡ true → first f n ≤ k
first_le f n k t = go (lt_or_ge k (first f n))
  where
    go : (k < first f n) ⊎ (first f n ≤ k) → first f n ≤ k
    go (inl l) = absurd (clash t (first_before f n k l))
    go (inr l) = l

-- how a loop that counts up finds the first number that passes
pub first_is : (f : ℕ → Bool) (n i : ℕ) → i < n → ((k : ℕ) → k < i → f k ≡ false) → f i ≡ true → first f n ≡ i
first_is f n i l h t = go (lt_or_ge (first f n) i) (first_le f n i t)
  where
    go : (first f n < i) ⊎ (i ≤ first f n) → first f n ≤ i → first f n ≡ i
    go (inl k) e = absurd (clash (first_at f n (omega arith)) (h (first f n) k))
    go (inr k) e = omega arith

pub first_none : (f : ℕ → Bool) (n : ℕ) → ((k : ℕ) → k < n → f k ≡ false) → first f n ≡ n
first_none f n h = go (lt_or_ge (first f n) n)
  where
    go : (first f n < n) ⊎ (n ≤ first f n) → first f n ≡ n
    go (inl k) = absurd (clash (first_at f n k) (h (first f n) k))
    go (inr k) = omega (arith, first≤ f n)

-- loops that count up: one more, a stop, and the end
pub all_more : (f : ℕ → Bool) (j : ℕ) → all f j ≡ true → f j ≡ true → all f (j + 1) ≡ true
unfolding all
all_more f j h t = rw (add-one j) (and_i h t)

pub all_stop : (f : ℕ → Bool) (n j : ℕ) → j < n → f j ≡ false → all f n ≡ false
all_stop f n j l t = not_i (λ h. clash (all→ f n j h l) t)

pub all_done : (f : ℕ → Bool) (n j : ℕ) → n ≤ j → j ≤ n → all f j ≡ true → all f n ≡ true
all_done f n j a b h = let e : n ≡ j = omega arith in rw e h

pub any_more : (f : ℕ → Bool) (j : ℕ) → any f j ≡ false → f j ≡ false → any f (j + 1) ≡ false
unfolding any
any_more f j h t = rw (add-one j, h, t)

pub any_done : (f : ℕ → Bool) (n j : ℕ) → n ≤ j → j ≤ n → any f j ≡ false → any f n ≡ false
any_done f n j a b h = let e : n ≡ j = omega arith in rw e h
