-- Nothing to believe: laws. What a number in base ten is: its digits give the number back, each is one of 0 to 9, and
-- the first is 0 only for the number 0.
use Rattle.std.specs.Prelude.{◌≡◌, refl, ◌⊎◌, cond, List, [], ◌∷◌, ◌++◌, ℕ, zero, suc, ◌+◌, ◌-◌, ◌*◌, ◌/◌, ◌%◌, ◌^◌, ◌≤◌, ◌<◌, ltb, length, get_or}
use Rattle.std.proofs.Common.{ap, inl, inr, arith, length-append, lt-ltb, le-ltb}
use Rattle.std.proofs.Math.Nat.{pow-succ'}
use Rattle.std.proofs.Math.ListN.{get_or-append}
use Rattle.std.proofs.lemmas.List.{get_or_at}
use Rattle.base.proofs.Truth.{lt_or_ge}
use Rattle.text_spec.specs.Lines.{decimal_in, decimal, value_from}

-- more digits than needed make no difference
fuel : (f g n : ℕ) → n < f → n < g → decimal_in f n ≡ decimal_in g n
unfolding decimal_in
fuel zero g n p q = absurd (omega arith)
fuel (suc f) zero n p q = absurd (omega arith)
fuel (suc f) (suc g) n p q = go (lt_or_ge n 10) (fuel f g (n / 10))
  where
    go : (n < 10) ⊎ (10 ≤ n) → (n / 10 < f → n / 10 < g → decimal_in f (n / 10) ≡ decimal_in g (n / 10))
        → cond (ltb n 10) ((48 + n) ∷ []) (decimal_in f (n / 10) ++ ((48 + n % 10) ∷ [])) ≡ cond (ltb n 10) ((48 + n) ∷ []) (decimal_in g (n / 10) ++ ((48 + n % 10) ∷ []))
    go (inl l) ih = rw (lt-ltb n 10 l)
    go (inr l) ih = rw (le-ltb n 10 l, ih (omega arith) (omega arith))

-- a number below ten is one digit
pub decimal_small : (n : ℕ) → n < 10 → decimal n ≡ (48 + n) ∷ []
unfolding decimal decimal_in
decimal_small n h = rw (lt-ltb n 10 h)

-- a number from ten on is the digits of its tenth part, and its last digit
pub decimal_large : (n : ℕ) → 10 ≤ n → decimal n ≡ decimal (n / 10) ++ ((48 + n % 10) ∷ [])
unfolding decimal decimal_in
decimal_large n h = rw (le-ltb n 10 h) (ap (λ (l : List ℕ). l ++ ((48 + n % 10) ∷ [])) (fuel n (suc (n / 10)) (n / 10) (omega arith) (omega arith)))

value_snoc : (v : ℕ) (t : List ℕ) (x : ℕ) → value_from v (t ++ (x ∷ [])) ≡ value_from v t * 10 + (x - 48)
unfolding value_from
value_snoc v [] x = refl
value_snoc v (y ∷ t) x = value_snoc (v * 10 + (y - 48)) t x

-- the digits give the number back, by as many steps as the number is large
value_in : (k n : ℕ) → n < k → value_from 0 (decimal n) ≡ n
unfolding value_from
value_in zero n h = absurd (omega arith)
value_in (suc k) n h = go (lt_or_ge n 10) (λ (l : 10 ≤ n). value_in k (n / 10) (omega arith))
  where
    go : (n < 10) ⊎ (10 ≤ n) → (10 ≤ n → value_from 0 (decimal (n / 10)) ≡ n / 10) → value_from 0 (decimal n) ≡ n
    go (inl l) ih = rw (decimal_small n l) (omega arith)
    go (inr l) ih = rw (decimal_large n l, value_snoc 0 (decimal (n / 10)) (48 + n % 10), ih l) (omega arith)

-- the digits give the number back
pub decimal_value : (n : ℕ) → value_from 0 (decimal n) ≡ n
decimal_value n = value_in (suc n) n (omega arith)

-- a number has some digits, and not more than it needs
pub decimal_some : (n : ℕ) → 0 < length (decimal n)
decimal_some n = go (lt_or_ge n 10)
  where
    go : (n < 10) ⊎ (10 ≤ n) → 0 < length (decimal n)
    go (inl l) = rw (decimal_small n l) (omega arith)
    go (inr l) = rw (decimal_large n l, length-append (decimal (n / 10)) ((48 + n % 10) ∷ [])) (omega arith)

pub decimal_few : (k n : ℕ) → n < 10 ^ suc k → length (decimal n) ≤ suc k
decimal_few zero n h =
    let s : n < 10 = omega (arith, pow-succ' 10 0) in
    rw (decimal_small n s) (omega arith)
decimal_few (suc k) n h = go (lt_or_ge n 10) (decimal_few k (n / 10) (omega (arith, pow-succ' 10 (suc k))))
  where
    go : (n < 10) ⊎ (10 ≤ n) → length (decimal (n / 10)) ≤ suc k → length (decimal n) ≤ suc (suc k)
    go (inl s) ih = rw (decimal_small n s) (omega arith)
    go (inr s) ih = rw (decimal_large n s, length-append (decimal (n / 10)) ((48 + n % 10) ∷ [])) (omega arith)

-- no more digits than it needs are enough for a number, so that the text of a long one computes
pub decimal_within : (k n : ℕ) → n < 10 ^ suc k → decimal n ≡ decimal_in (suc k) n
unfolding decimal_in
decimal_within zero n h =
    let s : n < 10 = omega (arith, pow-succ' 10 0) in
    rw (lt-ltb n 10 s) (decimal_small n s)
decimal_within (suc k) n h = go (lt_or_ge n 10) (decimal_within k (n / 10) (omega (arith, pow-succ' 10 (suc k))))
  where
    go : (n < 10) ⊎ (10 ≤ n) → decimal (n / 10) ≡ decimal_in (suc k) (n / 10) → decimal n ≡ decimal_in (suc (suc k)) n
    go (inl s) ih = rw (lt-ltb n 10 s) (decimal_small n s)
    go (inr s) ih = rw (le-ltb n 10 s, decimal_large n s) (ap (λ (l : List ℕ). l ++ ((48 + n % 10) ∷ [])) ih)

-- a number has no leading zero: its first digit is 0 (code 48) only where the number is 0
first_in : (k n : ℕ) → n < k → 0 < n → 48 < get_or (decimal n) 0 0
first_in zero n h z = absurd (omega arith)
first_in (suc k) n h z = go (lt_or_ge n 10) (λ (l : 10 ≤ n). first_in k (n / 10) (omega arith) (omega arith))
  where
    go : (n < 10) ⊎ (10 ≤ n) → (10 ≤ n → 48 < get_or (decimal (n / 10)) 0 0) → 48 < get_or (decimal n) 0 0
    go (inl l) ih = rw (decimal_small n l) (omega arith)
    go (inr l) ih = rw (decimal_large n l, get_or-append (decimal (n / 10)) ((48 + n % 10) ∷ []) 0 0 (decimal_some (n / 10))) (ih l)

pub decimal_first : (n : ℕ) → 0 < n → 48 < get_or (decimal n) 0 0
decimal_first n z = first_in (suc n) n (omega arith) z

-- every digit of a number is the code of one of 0 to 9
digits_in : (k n : ℕ) → n < k → (i : ℕ) → i < length (decimal n) → (48 ≤ get_or (decimal n) i 0) × (get_or (decimal n) i 0 < 58)
digits_in zero n h i l = absurd (omega arith)
digits_in (suc k) n h i l = go (lt_or_ge n 10) (λ (g : 10 ≤ n). digits_in k (n / 10) (omega arith) i)
  where
    go : (n < 10) ⊎ (10 ≤ n)
        → (10 ≤ n → i < length (decimal (n / 10)) → (48 ≤ get_or (decimal (n / 10)) i 0) × (get_or (decimal (n / 10)) i 0 < 58))
        → (48 ≤ get_or (decimal n) i 0) × (get_or (decimal n) i 0 < 58)
    go (inl s) ih =
        let z : i ≡ 0 = omega (arith, ap length (decimal_small n s)) in
        rw (decimal_small n s, z) (omega arith, omega arith)
    go (inr s) ih = at (lt_or_ge i (length (decimal (n / 10))))
      where
        at : (i < length (decimal (n / 10))) ⊎ (length (decimal (n / 10)) ≤ i) → (48 ≤ get_or (decimal n) i 0) × (get_or (decimal n) i 0 < 58)
        at (inl u) = rw (decimal_large n s, get_or-append (decimal (n / 10)) ((48 + n % 10) ∷ []) 0 i u) (ih s u)
        at (inr u) =
            let e : length (decimal (n / 10)) ≡ i = omega (arith, ap length (decimal_large n s), length-append (decimal (n / 10)) ((48 + n % 10) ∷ [])) in
            rw (decimal_large n s, get_or_at (decimal (n / 10)) (48 + n % 10) [] 0 i e) (omega arith, omega arith)

pub decimal_digits : (n i : ℕ) → i < length (decimal n) → (48 ≤ get_or (decimal n) i 0) × (get_or (decimal n) i 0 < 58)
decimal_digits n = digits_in (suc n) n (omega arith)
