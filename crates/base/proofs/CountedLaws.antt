-- Nothing to believe: laws. How many things have a property (Counted): none, one, those of two kinds or of many, what
-- a function makes of them, and that no two numbers count the same things; what `count` counts.
use Rattle.std.specs.Prelude.{◌≡◌, refl, ◌⊎◌, ◌↔◌, ◌≢◌, Bool, true, false, cond, ltb}
use Rattle.std.proofs.Common.{sym, ap, ◌∙◌, inl, inr, eq-or-lt_of_le, lt-ltb, le-ltb}
use Prim.Native.Nat.{ℕ, zero, suc, ◌+◌, ◌-◌, ◌≤◌, ◌<◌}
use native.Mathlib.Omega.{arith}
use Rattle.base.proofs.Truth.{lt_or_ge, clash}
use Rattle.base.specs.Count.{count}
use Rattle.base.specs.Sum.{sum}
use Rattle.base.specs.Pigeon.{Twice}
use Rattle.base.proofs.Pigeon.{pigeonhole}
use Rattle.base.specs.Counted.{Listing, Counted}

module _ {A : Type 0} where
  -- the same things in other words are as many
  pub counted_as : {P R : A → Type 0} {n : ℕ} → ((a : A) → P a ↔ R a) → Counted P n → Counted R n
  counted_as h (T, l) = (
    T,
    record {
      holds = λ x k. (h (T x)).0 (l.holds x k);
      differ = l.differ;
      every = λ a r. l.every a ((h a).1 r);
    },
  )

  -- where nothing has the property (d stands in the places, which are not looked at)
  pub counted_none : {P : A → Type 0} → A → ((a : A) → ¬ P a) → Counted P 0
  counted_none d h = (
    (λ x. d),
    record {
      holds = λ x k. absurd (omega arith);
      differ = λ x y k m. absurd (omega arith);
      every = λ a p. absurd (h a p);
    },
  )

  -- where one thing alone has it
  pub counted_one : {P : A → Type 0} (a : A) → P a → ((b : A) → P b → a ≡ b) → Counted P 1
  counted_one a p u = (
    (λ x. a),
    record {
      holds = λ x k. p;
      differ = λ x y k m. absurd (omega arith);
      every = λ b r. (0, omega arith, u b r);
    },
  )

  -- the things of two kinds that exclude each other: those of the first are named first
  pub counted_either : {P R : A → Type 0} {n m : ℕ} → Counted P n → Counted R m → ((a : A) → P a → R a → ⊥) → Counted (λ a. P a ⊎ R a) (n + m)
  counted_either {P} {R} {n} {m} (T, l) (S, k) apart = (U, record { holds = holds'; differ = differ'; every = every' })
    where
      U : ℕ → A
      U x = cond (ltb x n) (T x) (S (x - n))

      low : (x : ℕ) → x < n → U x ≡ T x
      low x h = rw (lt-ltb x n h)

      high : (x : ℕ) → n ≤ x → U x ≡ S (x - n)
      high x h = rw (le-ltb x n h)

      holds' : (x : ℕ) → x < n + m → P (U x) ⊎ R (U x)
      holds' x h = go (lt_or_ge x n)
        where
          go : (x < n) ⊎ (n ≤ x) → P (U x) ⊎ R (U x)
          go (inl a) = inl (rw (low x a) (l.holds x a))
          go (inr a) = inr (rw (high x a) (k.holds (x - n) (omega arith)))

      differ' : (x y : ℕ) → x < y → y < n + m → U x ≢ U y
      differ' x y g h e = go (lt_or_ge x n) (lt_or_ge y n)
        where
          go : (x < n) ⊎ (n ≤ x) → (y < n) ⊎ (n ≤ y) → ⊥
          go (inl a) (inl b) = l.differ x y g b (sym (low x a) ∙ e ∙ low y b)
          go (inl a) (inr b) = apart (T x) (l.holds x a) (rw (sym (low x a) ∙ e ∙ high y b) (k.holds (y - n) (omega arith)))
          go (inr a) (inl b) = omega arith
          go (inr a) (inr b) = k.differ (x - n) (y - n) (omega arith) (omega arith) (sym (high x a) ∙ e ∙ high y b)

      every' : (a : A) → P a ⊎ R a → (x : ℕ) × (x < n + m) × (U x ≡ a)
      every' a (inl p) = let w = l.every a p in (w.0, omega (arith, w.1), low w.0 w.1 ∙ w.2)
      every' a (inr r) =
          let w = k.every a r in
          let z : n + w.0 - n ≡ w.0 = omega arith in
          (n + w.0, omega (arith, w.1), high (n + w.0) (omega arith) ∙ ap S z ∙ w.2)

  -- the things of many kinds that exclude each other, kind i having c i
  pub counted_kinds : (d : A) (P : ℕ → A → Type 0) (c : ℕ → ℕ) (n : ℕ) → ((i : ℕ) → i < n → Counted (P i) (c i))
      → ((i j : ℕ) (a : A) → i < j → j < n → P i a → P j a → ⊥) → Counted (λ a. (i : ℕ) × (i < n) × P i a) (sum c n)
  unfolding sum
  counted_kinds d P c zero h x = counted_none d (λ a w. omega (arith, w.1))
  counted_kinds d P c (suc n) h x =
      counted_as (λ a. (forth a, back a))
      (counted_either (counted_kinds d P c n (λ i l. h i (omega arith)) (λ i j a k l. x i j a k (omega arith))) (h n (omega arith))
      (λ a w p. x w.0 n a w.1 (omega arith) w.2 p))
    where
      forth : (a : A) → ((i : ℕ) × (i < n) × P i a) ⊎ P n a → (i : ℕ) × (i < suc n) × P i a
      forth a (inl (i, l, p)) = (i, omega arith, p)
      forth a (inr p) = (n, omega arith, p)

      back : (a : A) → (i : ℕ) × (i < suc n) × P i a → ((i : ℕ) × (i < n) × P i a) ⊎ P n a
      back a (i, l, p) = go (eq-or-lt_of_le l)
        where
          go : (suc i ≡ suc n) ⊎ (suc i < suc n) → ((i : ℕ) × (i < n) × P i a) ⊎ P n a
          go (inl e) = let q : i ≡ n = omega arith in inr (rw q at p)
          go (inr g) = inl (i, omega arith, p)

  -- a list that names each once is no longer than one that names all: where the things of the first stand in the second
  -- are different places
  module _ {P : A → Type 0} {n m : ℕ} {T S : ℕ → A} (l : Listing P n T) (k : Listing P m S) where
    spot : (x : ℕ) → (x < n) ⊎ (n ≤ x) → ℕ
    spot x (inl h) = (k.every (T x) (l.holds x h)).0
    spot x (inr h) = 0

    spot_is : (x : ℕ) → x < n → (c : (x < n) ⊎ (n ≤ x)) → (spot x c < m) × (S (spot x c) ≡ T x)
    unfolding spot
    spot_is x g (inl h) = let w = k.every (T x) (l.holds x h) in (w.1, w.2)
    spot_is x g (inr h) = absurd (omega arith)

    listing_few : n ≤ m
    listing_few = go (lt_or_ge m n)
      where
        f : ℕ → ℕ
        f x = spot x (lt_or_ge x n)

        twice : m < n → Twice f m → ⊥
        twice h (x, y, a, b, e) =
            l.differ x y a (omega arith)
            (sym (spot_is x (omega arith) (lt_or_ge x n)).1 ∙ ap S e ∙ (spot_is y (omega arith) (lt_or_ge y n)).1)

        go : (m < n) ⊎ (n ≤ m) → n ≤ m
        go (inr h) = h
        go (inl h) = absurd (twice h (pigeonhole m f (λ x a. (spot_is x (omega arith) (lt_or_ge x n)).0)))

  -- no two numbers count the same things
  pub counted_unique : {P : A → Type 0} {n m : ℕ} → Counted P n → Counted P m → n ≡ m
  counted_unique c d = omega (arith, listing_few c.1 d.1, listing_few d.1 c.1)

  -- some are counted exactly if there is one
  pub counted_some : {P : A → Type 0} {n : ℕ} → Counted P n → (0 < n) ↔ ((a : A) × P a)
  counted_some (T, l) = (λ h. (T 0, l.holds 0 h), λ w. let v = l.every w.0 w.1 in omega (arith, v.1))

module _ {A B : Type 0} where
  -- what a function that keeps things apart makes of them
  pub counted_map : {P : A → Type 0} {n : ℕ} (f : A → B) → ((a b : A) → f a ≡ f b → a ≡ b) → Counted P n → Counted (λ b. (a : A) × P a × (f a ≡ b)) n
  counted_map f apart (T, l) = (
    (λ x. f (T x)),
    record {
      holds = λ x k. (T x, l.holds x k, refl);
      differ = λ x y k m e. l.differ x y k m (apart (T x) (T y) e);
      every = λ b w. let v = l.every w.0 w.1 in (v.0, v.1, ap f v.2 ∙ w.2);
    },
  )

-- the numbers below n that pass a test are as many as are counted
count_counted : (f : ℕ → Bool) (n : ℕ) → Counted (λ v. (v < n) × (f v ≡ true)) (count f n)
unfolding count
count_counted f zero = counted_none 0 (λ v p. omega (arith, p.0))
count_counted f (suc n) =
    counted_as (λ v. (forth v, λ p. back v p (eq-or-lt_of_le p.0))) (counted_either (count_counted f n) (last (f n) refl) (λ v p q. omega (arith, p.0, q.0)))
  where
    last : (b : Bool) → f n ≡ b → Counted (λ v. (v ≡ n) × (f v ≡ true)) (cond b 1 0)
    last true e = counted_one n (refl, e) (λ v p. sym p.0)
    last false e = counted_none 0 (λ v p. clash (rw p.0 at p.1) e)

    forth : (v : ℕ) → ((v < n) × (f v ≡ true)) ⊎ ((v ≡ n) × (f v ≡ true)) → (v < suc n) × (f v ≡ true)
    forth v (inl p) = (omega (arith, p.0), p.1)
    forth v (inr p) = (omega (arith, p.0), p.1)

    back : (v : ℕ) → (v < suc n) × (f v ≡ true) → (suc v ≡ suc n) ⊎ (suc v < suc n) → ((v < n) × (f v ≡ true)) ⊎ ((v ≡ n) × (f v ≡ true))
    back v p (inl e) = inr (omega arith, p.1)
    back v p (inr l) = inl (omega arith, p.1)

-- the count is L exactly if L numbers below n have the property that is tested
pub count_means : (f : ℕ → Bool) (n L : ℕ) {R : ℕ → Type 0} → ((v : ℕ) → v < n → (f v ≡ true) ↔ R v) → (count f n ≡ L) ↔ Counted (λ v. (v < n) × R v) L
count_means f n L {R} h = (λ e. rw e at all, λ c. counted_unique all c)
  where
    all : Counted (λ v. (v < n) × R v) (count f n)
    all = counted_as (λ v. (λ p. (p.0, (h v p.0).0 p.1), λ p. (p.0, (h v p.0).1 p.1))) (count_counted f n)
