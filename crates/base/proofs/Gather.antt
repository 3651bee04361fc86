-- Nothing to believe: laws of what specs/Gather.antt defines.
use Rattle.std.specs.Prelude.{◌≡◌, ◌⊎◌, Bool, cond}
use Rattle.std.proofs.Common.{◌∙◌, inl, inr, eq-or-lt_of_le}
use Rattle.std.proofs.Math.Bool.{true, false}
use mathlib.Core.List.{[], ◌∷◌, ◌++◌, append-nil}
use Prim.Native.Nat.{ℕ, zero, suc, ◌+◌, ◌≤◌, ◌<◌}
use Rattle.std.proofs.Math.Nat.{le_refl, le_trans}
use Rattle.std.proofs.Math.Decide.{le_ind}
use native.Mathlib.Omega.{arith}
use Rattle.std.proofs.Math.ListN.{length, get_or, length-append, get_or-append}
use Rattle.std.proofs.Math.Seq.{get_or-append_seam}
use Rattle.base.proofs.Truth.{dec, lt_or_ge}
use Rattle.base.specs.Gather.{gather, select}

module _ (p : ℕ → Bool) (f : ℕ → ℕ) where
  -- one number more adds what f gives for it if it passes, and nothing if it fails
  pub gather_yes : (n : ℕ) → p n ≡ true → gather p f (suc n) ≡ gather p f n ++ (f n ∷ [])
  unfolding gather
  gather_yes n e = rw e

  pub gather_no : (n : ℕ) → p n ≡ false → gather p f (suc n) ≡ gather p f n
  unfolding gather
  gather_no n e = rw e (append-nil (gather p f n))

  -- the length grows by one where the test passes
  pub length_yes : (n : ℕ) → p n ≡ true → length (gather p f (suc n)) ≡ length (gather p f n) + 1
  length_yes n e = rw (gather_yes n e) (length-append (gather p f n) (f n ∷ []))

  -- the first numbers give the front of the list
  pub gather_mono : (n m : ℕ) → n ≤ m → length (gather p f n) ≤ length (gather p f m)
  unfolding gather
  gather_mono n m h = le_ind (λ (k : ℕ). length (gather p f n) ≤ length (gather p f k)) (le_refl _) (λ k (u : n ≤ k) e. le_trans e (simp length-append (omega arith))) m h

  -- the list is no longer than the numbers are many
  pub gather_short : (n : ℕ) → length (gather p f n) ≤ n
  unfolding gather
  gather_short zero = le_refl 0
  gather_short (suc n) = simp length-append (omega (arith, gather_short n, last (p n)))
    where
      last : (b : Bool) → length (cond b (f n ∷ []) []) ≤ 1
      last true = omega arith
      last false = omega arith

  -- numbers that fail add nothing
  pub gather_skip : (x y : ℕ) → x ≤ y → ((z : ℕ) → x ≤ z → z < y → p z ≡ false) → gather p f y ≡ gather p f x
  gather_skip x zero l h = let e : x ≡ 0 = omega arith in rw e
  gather_skip x (suc y) l h = go (eq-or-lt_of_le l) (λ (k : x ≤ y). gather_skip x y k (λ z a b. h z a (omega arith)))
    where
      go : (x ≡ suc y) ⊎ (x < suc y) → (x ≤ y → gather p f y ≡ gather p f x) → gather p f (suc y) ≡ gather p f x
      go (inl e) ih = rw e
      go (inr k) ih = gather_no y (h y (omega arith) (omega arith)) ∙ ih (omega arith)

  -- what f gives for a number that passes has its place after what the numbers below it give
  pub gather_room : (z n : ℕ) → z < n → p z ≡ true → length (gather p f z) < length (gather p f n)
  gather_room z n l t = omega (arith, length_yes z t, gather_mono (suc z) n l)

  pub gather_has : (z n : ℕ) → z < n → p z ≡ true → get_or (gather p f n) (length (gather p f z)) 0 ≡ f z
  unfolding gather
  gather_has z n l t = le_ind (λ (k : ℕ). get_or (gather p f k) (length (gather p f z)) 0 ≡ f z) base step n l
    where
      base : get_or (gather p f (suc z)) (length (gather p f z)) 0 ≡ f z
      base = rw t (get_or-append_seam (gather p f z) (f z) [] 0)

      step : (k : ℕ) → suc z ≤ k → get_or (gather p f k) (length (gather p f z)) 0 ≡ f z → get_or (gather p f (suc k)) (length (gather p f z)) 0 ≡ f z
      step k u ih = get_or-append (gather p f k) (cond (p k) (f k ∷ []) []) 0 (length (gather p f z)) (gather_room z k u t) ∙ ih

  -- what stands at place x comes from a number that passes, after x others
  pub gather_from : (n x : ℕ) → x < length (gather p f n) → (z : ℕ) × (z < n) × (p z ≡ true) × (length (gather p f z) ≡ x) × (get_or (gather p f n) x 0 ≡ f z)
  gather_from zero x l = absurd (unfold gather in (omega arith))
  gather_from (suc n) x l = go (dec (p n)) (gather_from n x) (lt_or_ge x (length (gather p f n)))
    where
      go : (p n ≡ true) ⊎ (p n ≡ false)
          → (x < length (gather p f n) → (z : ℕ) × (z < n) × (p z ≡ true) × (length (gather p f z) ≡ x) × (get_or (gather p f n) x 0 ≡ f z))
          → (x < length (gather p f n)) ⊎ (length (gather p f n) ≤ x)
          → (z : ℕ) × (z < suc n) × (p z ≡ true) × (length (gather p f z) ≡ x) × (get_or (gather p f (suc n)) x 0 ≡ f z)
      go (inr e) ih d = let w = ih (rw (gather_no n e) at l) in (w.0, omega (arith, w.1), w.2, w.3, rw (gather_no n e) w.4)
      go (inl e) ih (inl h) =
          let w = ih h in
          (w.0, omega (arith, w.1), w.2, w.3, rw (gather_yes n e) (get_or-append (gather p f n) (f n ∷ []) 0 x h ∙ w.4))
      go (inl e) ih (inr h) =
          let s : length (gather p f n) ≡ x = omega (arith, length_yes n e) in
          (n, omega arith, e, s, rw (← s, gather_has n (suc n) (omega arith) e))

-- what is selected ascends
pub select_ascends : (p : ℕ → Bool) (n x y : ℕ) → x < y → y < length (select p n) → get_or (select p n) x 0 < get_or (select p n) y 0
unfolding select
select_ascends p n x y l h =
    let v = gather_from p (λ z. z) n x (omega arith) in
    let w = gather_from p (λ z. z) n y h in
    rw (v.4, w.4) (go v.0 w.0 v.3 w.3 (lt_or_ge v.0 w.0))
  where
    go : (a b : ℕ) → length (gather p (λ z. z) a) ≡ x → length (gather p (λ z. z) b) ≡ y → (a < b) ⊎ (b ≤ a) → a < b
    go a b i j (inl k) = k
    go a b i j (inr k) = absurd (omega (arith, gather_mono p (λ z. z) b a k))
