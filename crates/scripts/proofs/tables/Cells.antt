-- The places of a table of counts: what putting three numbers does to them, and how loops fill them.
use mathlib.Core.Path.{◌≡◌, sym, ◌∙◌}
use mathlib.Core.Logic.{◌⊎◌, inl, inr, ◌≢◌}
use mathlib.Core.List.{List}
use Prim.Native.Nat.{ℕ, suc, ◌+◌, ◌*◌, ◌≤◌, ◌<◌}
use native.Mathlib.Nat.{eq-or-lt_of_le, mul-le-mul}
use native.Mathlib.Omega.{arith}
use lib.Arith.{digits_lt, digits_div, digits_mod}
use lib.ListN.{length, set, get_or, length-set}
use lib.Seq.{get_or-set_same, get_or-set_other}
use borrow.Author.Tests.{lt-ltb, le-ltb}
use Rattle.base.proofs.Truth.{lt_or_ge}
use Rattle.scripts_spec.specs.declared.Counts.{Counts}
use Rattle.scripts.specs.Shapes.{cell, place, place_sums, next_cell, Stored, Stopped, Filled}

module _ (t : List ℕ) (c : ℕ) (v : Counts) (h : length t ≡ 3078) (l : c < 1026) where
  one : List ℕ
  one = set t (c * 3) v.walked

  two : List ℕ
  two = set one (c * 3 + 1) v.device

  -- a table after the three counts of a place were put
  pub stored : Stored t c v (set (set (set t (c * 3) v.walked) (c * 3 + 1) v.device) (c * 3 + 2) v.reference)
  unfolding cell one two
  stored = record {
    long = length-set two (c * 3 + 2) v.reference ∙ length-set one (c * 3 + 1) v.device ∙ length-set t (c * 3) v.walked;
    there =
        rw (
          get_or-set_other two (c * 3 + 2) (c * 3) v.reference 0 (λ e. omega arith),
          get_or-set_other one (c * 3 + 1) (c * 3) v.device 0 (λ e. omega arith),
          get_or-set_same t (c * 3) v.walked 0 (omega arith),
          get_or-set_other two (c * 3 + 2) (c * 3 + 1) v.reference 0 (λ e. omega arith),
          get_or-set_same one (c * 3 + 1) v.device 0 (omega (arith, length-set t (c * 3) v.walked)),
          get_or-set_same two (c * 3 + 2) v.reference 0 (omega (arith, length-set one (c * 3 + 1) v.device, length-set t (c * 3) v.walked)),
        );
    others = λ k n. rw (kept k (k * 3) (λ e. n (omega arith)) (λ e. omega arith) (λ e. omega arith), kept k (k * 3 + 1) (λ e. omega arith) (λ e. n (omega arith)) (λ e. omega arith), kept k (k * 3 + 2) (λ e. omega arith) (λ e. omega arith) (λ e. n (omega arith)));
  }
    where
      kept : (k j : ℕ) → j ≢ c * 3 → j ≢ c * 3 + 1 → j ≢ c * 3 + 2 → get_or (set two (c * 3 + 2) v.reference) j 0 ≡ get_or t j 0
      kept k j x y z =
          get_or-set_other two (c * 3 + 2) j v.reference 0 z ∙ get_or-set_other one (c * 3 + 1) j v.device 0 y ∙ get_or-set_other t (c * 3) j v.walked 0 x

-- the counts of the first place, put into three places
pub first_put : (t out : List ℕ) → length out ≡ 3 → cell (set (set (set out 0 (get_or t 0 0)) 1 (get_or t 1 0)) 2 (get_or t 2 0)) 0 ≡ cell t 0
unfolding cell
first_put t out h =
    let one = set out 0 (get_or t 0 0) in
    let two = set one 1 (get_or t 1 0) in
    rw (
      get_or-set_other two 2 0 (get_or t 2 0) 0 (λ e. omega arith),
      get_or-set_other one 1 0 (get_or t 1 0) 0 (λ e. omega arith),
      get_or-set_same out 0 (get_or t 0 0) 0 (omega arith),
      get_or-set_other two 2 1 (get_or t 2 0) 0 (λ e. omega arith),
      get_or-set_same one 1 (get_or t 1 0) 0 (omega (arith, length-set out 0 (get_or t 0 0))),
      get_or-set_same two 2 (get_or t 2 0) 0 (omega (arith, length-set one 1 (get_or t 1 0), length-set out 0 (get_or t 0 0))),
    )

-- no place is filled yet
pub filled_none : (f : ℕ → Counts) (c : ℕ) (t : List ℕ) → length t ≡ 3078 → c ≡ 0 → Filled f c t
filled_none f c t h z = record { long = h; holds = λ k l. absurd (omega arith) }

-- one place more is filled
pub filled_more : (f : ℕ → Counts) (c : ℕ) (t t' : List ℕ) (v : Counts) → Filled f c t → Stored t c v t' → v ≡ f c → Filled f (c + 1) t'
filled_more f c t t' v h s e = record { long = s.long ∙ h.long; holds = λ k l. go k (eq-or-lt_of_le l) }
  where
    go : (k : ℕ) → (suc k ≡ c + 1) ⊎ (suc k < c + 1) → cell t' k ≡ f k
    go k (inl p) = let q : k ≡ c = omega arith in rw q (s.there ∙ e)
    go k (inr p) = s.others k (λ q. omega arith) ∙ h.holds k (omega arith)

-- as many places are filled as are asked for
pub filled_as : (f : ℕ → Counts) (c d : ℕ) (t : List ℕ) → c ≡ d → Filled f c t → Filled f d t
filled_as f c d t e h = rw e at h

-- the two last places of a table, put one after the other
pub stopped : (t t₁ t₂ : List ℕ) (pairs power : ℕ) → Stored t pairs (record { walked = 0; device = 0; reference = power }) t₁
    → Stored t₁ (pairs + 1) (record { walked = 0; device = power; reference = 0 }) t₂ → Stopped t pairs power t₂
stopped t t₁ t₂ pairs power a b = record {
  long = b.long ∙ a.long;
  reference = b.others pairs (λ e. omega arith) ∙ a.there;
  device = b.there;
  others = λ k l. b.others k (λ e. omega arith) ∙ a.others k (λ e. omega arith);
}

-- where the place of an event stands, by what the two sheets can do
module _ (p q x y : ℕ) where
  pub place_both : y < q → x < p → place p q x y ≡ x * q + y
  unfolding place
  place_both h k = rw (lt-ltb y q h, lt-ltb x p k)

  pub place_reference : y < q → p ≤ x → place p q x y ≡ p * q
  unfolding place
  place_reference h k = rw (lt-ltb y q h, le-ltb x p k)

  pub place_device : q ≤ y → place p q x y ≡ p * q + 1
  unfolding place
  place_device h = rw (le-ltb y q h)

  -- the same of nodes that are known by other names
  module _ (n m : ℕ) (u : n ≡ x) (v : m ≡ y) where
    pub told_both : m < q → n < p → n * q + m ≡ place p q x y
    told_both h k = rw (u, v) (sym (place_both (rw v at h) (rw u at k)))

    pub told_reference : m < q → p ≤ n → p * q ≡ place p q x y
    told_reference h k = sym (place_reference (rw v at h) (rw u at k))

    pub told_device : q ≤ m → p * q + 1 ≡ place p q x y
    told_device h = sym (place_device (rw v at h))

  -- it is one of the pairs, or one of the two places after them
  pub place_lt : place p q x y < p * q + 2
  place_lt = go (lt_or_ge y q) (lt_or_ge x p)
    where
      go : (y < q) ⊎ (q ≤ y) → (x < p) ⊎ (p ≤ x) → place p q x y < p * q + 2
      go (inl h) (inl k) = rw (place_both h k) (omega (arith, digits_lt k h))
      go (inl h) (inr k) = rw (place_reference h k) (omega arith)
      go (inr h) k = rw (place_device h) (omega arith)

  -- so the table has it
  pub place_few : p ≤ 32 → q ≤ 32 → place p q x y < 1026
  place_few h k = omega (arith, place_lt, mul-le-mul h k)

-- the place of a pair is one of the table's
pub pair_few : (p q x y : ℕ) → p ≤ 32 → q ≤ 32 → x < p → y < q → x * q + y < 1024
pair_few p q x y h k l m = omega (arith, digits_lt l m, mul-le-mul h k)

-- what a table for one event more holds for a pair
pub next_pair : (a b : List ℕ) (p q e : ℕ) (before : List ℕ) (n m : ℕ) → m < q → next_cell a b p q e before (n * q + m) ≡ place_sums a b p q before n m e
unfolding next_cell
next_pair a b p q e before n m l = rw (digits_div n l, digits_mod n l)
