-- Nothing to believe: laws. Lists one after another: the same lists, how long they are together, and which element of
-- which list stands at which place.
use Rattle.std.specs.Prelude.{◌≡◌, refl, ◌⊎◌, List}
use Rattle.std.proofs.Math.Path.{ap}
use Rattle.std.proofs.Common.{◌∙◌, inl, inr, le_refl, suc-mul, get_or-append-add}
use Prim.Native.Nat.{ℕ, zero, suc, ◌+◌, ◌-◌, ◌*◌, ◌≤◌, ◌<◌}
use Rattle.std.proofs.Math.Decide.{le_ind}
use native.Mathlib.Omega.{arith}
use Rattle.std.proofs.Math.ListN.{length, get_or, length-append, get_or-append}
use Rattle.base.proofs.Truth.{lt_or_ge}
use Rattle.base.specs.Joined.{joined}

-- the same lists, joined, are the same list
pub joined_same : (f g : ℕ → List ℕ) (n : ℕ) → ((i : ℕ) → i < n → f i ≡ g i) → joined f n ≡ joined g n
unfolding joined
joined_same f g zero h = refl
joined_same f g (suc n) h = rw (h n (omega arith), joined_same f g n (λ i l. h i (omega arith)))

module _ (f : ℕ → List ℕ) where
  -- one list more
  pub joined_more : (n : ℕ) → length (joined f (suc n)) ≡ length (joined f n) + length (f n)
  unfolding joined
  joined_more n = omega (arith, length-append (joined f n) (f n), length-append (f n) (joined f n))

  -- fewer lists are together no longer
  pub joined_mono : (n m : ℕ) → n ≤ m → length (joined f n) ≤ length (joined f m)
  joined_mono n m h = le_ind (λ (k : ℕ). length (joined f n) ≤ length (joined f k)) (le_refl _) (λ k (u : n ≤ k) e. omega (arith, e, joined_more k)) m h

  -- element y of list j stands after all lists before
  pub joined_room : (n j y : ℕ) → j < n → y < length (f j) → length (joined f j) + y < length (joined f n)
  joined_room n j y l h = omega (arith, joined_more j, joined_mono (suc j) n l)

  pub joined_has : (n j y : ℕ) → j < n → y < length (f j) → get_or (joined f n) (length (joined f j) + y) 0 ≡ get_or (f j) y 0
  unfolding joined
  joined_has n j y l h = le_ind (λ (k : ℕ). get_or (joined f k) (length (joined f j) + y) 0 ≡ get_or (f j) y 0) (get_or-append-add (joined f j) (f j) y 0) step n l
    where
      step : (k : ℕ) → suc j ≤ k → get_or (joined f k) (length (joined f j) + y) 0 ≡ get_or (f j) y 0 → get_or (joined f (suc k)) (length (joined f j) + y) 0 ≡ get_or (f j) y 0
      step k u e = get_or-append (joined f k) (f k) 0 (length (joined f j) + y) (joined_room k j y u h) ∙ e

  -- what stands at place x is an element of one of the lists
  pub joined_from : (n x : ℕ) → x < length (joined f n) → (j : ℕ) × (y : ℕ) × (j < n) × (y < length (f j)) × (x ≡ length (joined f j) + y) × (get_or (joined f n) x 0 ≡ get_or (f j) y 0)
  joined_from zero x l = absurd (unfold joined in (omega arith))
  joined_from (suc n) x l = go (lt_or_ge x (length (joined f n))) (joined_from n x)
    where
      go : (x < length (joined f n)) ⊎ (length (joined f n) ≤ x)
          → (x < length (joined f n) → (j : ℕ) × (y : ℕ) × (j < n) × (y < length (f j)) × (x ≡ length (joined f j) + y) × (get_or (joined f n) x 0 ≡ get_or (f j) y 0))
          → (j : ℕ) × (y : ℕ) × (j < suc n) × (y < length (f j)) × (x ≡ length (joined f j) + y) × (get_or (joined f (suc n)) x 0 ≡ get_or (f j) y 0)
      go (inl h) ih =
          let w = ih h in
          (w.0, w.1, omega (arith, w.2), w.3, w.4, rw w.4 (joined_has (suc n) w.0 w.1 (omega (arith, w.2)) w.3))
      go (inr h) ih =
          let y = x - length (joined f n) in
          let s : x ≡ length (joined f n) + y = omega arith in
          let k : y < length (f n) = omega (arith, joined_more n) in
          (n, y, omega arith, k, s, ap (λ (z : ℕ). get_or (joined f (suc n)) z 0) s ∙ joined_has (suc n) n y (omega arith) k)

-- n lists of at most k elements have at most n times k
pub joined_length : (f : ℕ → List ℕ) (k n : ℕ) → ((i : ℕ) → i < n → length (f i) ≤ k) → length (joined f n) ≤ n * k
joined_length f k zero h = unfold joined in (omega arith)
joined_length f k (suc n) h = omega (arith, joined_more f n, suc-mul n k, joined_length f k n (λ i l. h i (omega arith)), h n (omega arith))
