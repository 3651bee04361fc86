-- Nothing to believe: laws of sets that gather the numbers below n which pass a test.
use Rattle.std.specs.Prelude.{◌≡◌, refl, ◌⊎◌, Bool, true, false, ◌||◌, cond, ℕ, zero, suc, ◌≤◌, ◌<◌, max, eqb}
use Rattle.std.proofs.Common.{◌∙◌, inl, inr, arith}
use Rattle.std.specs.Int.Bits.{bit_or}
use Rattle.base.proofs.Truth.{lt_or_ge}
use Rattle.events.specs.Bit.{bit, set_of}
use Rattle.events.proofs.Bit.{bits_ext, bit_or_lem, bit_high, set_of_lt, bit_set_of}
use Rattle.events.specs.Sets.{has}

-- below n a number is in the set exactly if it passes
pub has_set_of : (f : ℕ → Bool) (n v : ℕ) → v < n → has (set_of f n) v ≡ f v
unfolding has
has_set_of f n v l = rw (bit_set_of f n v l) (go (f v))
  where
    go : (b : Bool) → eqb (cond b 1 0) 1 ≡ b
    go true = refl
    go false = refl

-- a union of two gathered sets
pub or_set_of : (f g : ℕ → Bool) (n : ℕ) → bit_or (set_of f n) (set_of g n) ≡ set_of (λ v. f v || g v) n
or_set_of f g n = bits_ext (bit_or (set_of f n) (set_of g n)) (set_of (λ v. f v || g v) n) (λ v. bit_or_lem v (set_of f n) (set_of g n) ∙ at v (lt_or_ge v n))
  where
    digit : (a b : Bool) → max (cond a 1 0) (cond b 1 0) ≡ cond (a || b) 1 0
    digit true true = refl
    digit true false = refl
    digit false true = refl
    digit false false = refl

    at : (v : ℕ) → (v < n) ⊎ (n ≤ v) → max (bit (set_of f n) v) (bit (set_of g n) v) ≡ bit (set_of (λ v. f v || g v) n) v
    at v (inl l) = rw (bit_set_of f n v l, bit_set_of g n v l, bit_set_of (λ v. f v || g v) n v l) (digit (f v) (g v))
    at v (inr l) =
        rw (bit_high n v (set_of f n) (set_of_lt f n) l, bit_high n v (set_of g n) (set_of_lt g n) l, bit_high n v (set_of (λ v. f v || g v) n) (set_of_lt (λ v. f v || g v) n) l)

-- tests that agree below n gather the same set
pub set_of_ext : (f g : ℕ → Bool) (n : ℕ) → ((i : ℕ) → i < n → f i ≡ g i) → set_of f n ≡ set_of g n
unfolding set_of
set_of_ext f g zero h = refl
set_of_ext f g (suc n) h = rw (set_of_ext f g n (λ i l. h i (omega arith)), h n (omega arith))
